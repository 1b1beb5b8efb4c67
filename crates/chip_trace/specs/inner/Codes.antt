-- The encoding of a trace's progress as data, so that proofs can distinguish two values (chosen by this project).
use Rattle.std.specs.Prelude.{ℕ, Bool, List, refl}
use Rattle.std.specs.Coded.{Coded, code_by, coded×, coded_ℕ, coded_bool, coded_list}
use Rattle.chip_trace.specs.Lines.{Progress}
use Rattle.chip_trace.specs.contracts.column.Column as columns
use Rattle.chip_trace.specs.contracts.form.Form as forms
use Rattle.chip_trace.specs.declared.column.Column.{Column}
use Rattle.chip_trace.specs.declared.form.Form.{Form}

abbrev pub columns_code : Coded (List Column)
columns_code = coded_list columns.the_row.coded

abbrev pub progress_code : Coded Progress
progress_code =
    code_by (List Column × (Form × (ℕ × (ℕ × Bool))))
    (coded× columns_code (coded× forms.the_row.coded (coded× coded_ℕ (coded× coded_ℕ coded_bool))))
    (λ t. (t.columns, (t.form, (t.next, (t.to, t.is_done)))))
    (λ p. record {
      columns = p.0;
      form = p.1.0;
      next = p.1.1.0;
      to = p.1.1.1.0;
      is_done = p.1.1.1.1;
    })
    (λ _. refl)
