-- The line of help for a source that doesn't open, as it is printed.
use Rattle.std.proofs.Common.{◌≡◌, ◌∙◌, ◌++◌, ℕ, Bool, List, ap, append-nil, codes, refl, take}
use Rattle.std.specs.List.{flat_map, position_or_len}
use Rattle.chip_asm.specs.Lines.{is_newline}
use Rattle.chip_asm.specs.declared.refusal.OpenError.{OpenError}
use Rattle.chip_asm.specs.declared.refusal.OpenError.TheVariants.{LineTooLong, TooManyLines, OutOfMemory}
use Rattle.chip_check.specs.declared.hint.Hint.{Hint}
use Rattle.chip_check.specs.declared.hint.HintKind.TheVariants.{Help}
use Rattle.chip_check.specs.Check.{beginning, hint_line, hint_style, painted}
use Rattle.chip_check.specs.Json.{hint_prefix, hint_string, hint_strings, quoted}
use Rattle.chip_check.specs.Unopened.{unopened_help}
use Rattle.chip_check.specs.inner.Printing.{IsHelp}

-- the sentence contains no newline
one_line : (fault : OpenError) → take (position_or_len is_newline (unopened_help fault)) (unopened_help fault) ≡ unopened_help fault
one_line (LineTooLong number) = refl
one_line TooManyLines = refl
one_line OutOfMemory = refl

pub as_string : (sentence : List ℕ) (hints : List Hint) → IsHelp sentence hints → hint_strings hints ≡ quoted sentence
as_string sentence hints is =
    ap hint_strings is.alone ∙ append-nil (hint_string is.hint) ∙ ap (λ kind. quoted (hint_prefix kind ++ is.hint.sentence.items)) is.kind
    ∙ ap (λ text. quoted text) is.says

pub as_line : (is_painted : Bool) (fault : OpenError) (hints : List Hint) → IsHelp (unopened_help fault) hints →
    flat_map (hint_line is_painted) hints ≡ painted is_painted (hint_style Help) (beginning Help) ++ codes " " ++ unopened_help fault ++ codes "\n"
as_line is_painted fault hints is =
    ap (flat_map (hint_line is_painted)) is.alone ∙ append-nil (hint_line is_painted is.hint)
    ∙ ap (λ kind. painted is_painted (hint_style kind) (beginning kind) ++ codes " " ++ take (position_or_len is_newline is.hint.sentence.items) is.hint.sentence.items ++ codes "\n") is.kind
    ∙ ap (λ text. painted is_painted (hint_style Help) (beginning Help) ++ codes " " ++ take (position_or_len is_newline text) text ++ codes "\n") is.says
    ∙ ap (λ text. painted is_painted (hint_style Help) (beginning Help) ++ codes " " ++ text ++ codes "\n") (one_line fault)
