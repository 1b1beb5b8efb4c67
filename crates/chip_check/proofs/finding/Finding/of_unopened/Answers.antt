use Rattle.chip_check.proofs.finding.Finding.of_unopened.Goals as goal

pub returns-in_ok-one_help-in-LineTooLong-clause-help : goal.returns-in_ok-one_help-in-LineTooLong-clause-help
returns-in_ok-one_help-in-LineTooLong-clause-help c = rw c.in-LineTooLong.is c.in_ok-one_help-in-LineTooLong.ensures

pub returns-in_ok-one_help-in-TooManyLines-clause-help : goal.returns-in_ok-one_help-in-TooManyLines-clause-help
returns-in_ok-one_help-in-TooManyLines-clause-help c = rw c.in-TooManyLines.is c.in_ok-one_help-in-TooManyLines.ensures
