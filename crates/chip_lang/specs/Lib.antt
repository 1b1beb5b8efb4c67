-- The definitions of the assembler's language. They are part of the trusted base.
--     Table      the table of instructions: their source forms and their words
--     Decoding   the instruction of a word
--     Token      the token at a place of a line
--     Scan       the relation between a line and its list of tokens
--     Named, Keyword, Reserved      words of the language
--     Form       the source form for a name and operands
--     Expression, Tree, Grammar, Value      expressions, and their values
--     Show       the source text of a word
--     Operand, Encoding             operands, and the word of a form
--     Statement  the word of a statement, and the instruction that it decodes to
--     Line       the reading of a line
--     Code       the code of a line
--     Uses       the names that a line uses, and the name that it defines
--     Meter      counts of work
--     FaultNumber      the numbers of faults
--     FaultPlace       the tokens at which a fault lies
--     SeenLine   lines as contracts see them, without their places in memory
--     Examples   worked examples
--     computed   functions that find the tokens of a line, and the expression that tokens form;
--                laws state that they agree with Scan and with Grammar
--     inner      definitions for private functions; no public clause cites them, and a reader may
--                skip them
pub mod Code
pub mod Decoding
pub mod Encoding
pub mod Examples
pub mod Expression
pub mod FaultNumber
pub mod FaultPlace
pub mod Form
pub mod Grammar
pub mod Keyword
pub mod Line
pub mod Meter
pub mod Named
pub mod Operand
pub mod Reserved
pub mod Scan
pub mod SeenLine
pub mod Show
pub mod Statement
pub mod Table
pub mod Token
pub mod Tree
pub mod Uses
pub mod Value
pub mod computed
pub mod inner
