-- Worked examples of the definitions (chosen by this project).
use Rattle.std.specs.Prelude.{ℕ, ◌≡◌, pos, negsuc, codes, [], ◌∷◌, Some, None, Ok, Err}
use Rattle.chip_lang.specs.declared.fault.Fault.TheVariants.{Overflow, DivisionByZero, BadCharacter, UnfinishedString, UnknownWord, WrongOperands, TooDeep, BadName, NotInProfile}
use Rattle.chip_lang.specs.declared.token.Token.{Token}
use Rattle.chip_lang.specs.declared.token.Kind.{Kind}
use Rattle.chip_lang.specs.declared.token.Kind.TheVariants.{Word, Number, Sign}
use Rattle.chip_lang.specs.declared.expr.Prefix.TheVariants.{Not}
use Rattle.chip_lang.specs.declared.expr.Operator.TheVariants.{ShiftLeft, ShiftRight, Multiply, Add, Subtract, Xor, Divide}
use Rattle.chip_lang.specs.declared.form.Pattern.TheVariants.{Vx, V0, Byte, Address, AtIndex as at_index}
use Rattle.chip_lang.specs.declared.form.Special.TheVariants.{AtIndex}
use Rattle.chip_lang.specs.computed.Tokens.{tokens_of}
use Rattle.chip_lang.specs.Tree.{number, name, unary, binary}
use Rattle.chip_lang.specs.Value.{value, no_names}
use Rattle.chip_lang.specs.Operand.{register, special, expression}
use Rattle.chip_lang.specs.Table.{row}
use Rattle.chip_lang.specs.Encoding.{word_of_form}
use Rattle.chip_lang.specs.Line.{read, bad, reading_of, code, db, equ, empty}

abbrev pub token : Kind → ℕ → ℕ → Token
token k s e = record { kind = k; start = s; end = e }

pub record Examples : Type 0 where
  pub tokens : tokens_of (codes "P: DB #0f ;x")
      ≡ token Word 0 1 ∷ token (Sign 58) 1 2 ∷ token Word 3 5 ∷ token (Number (pos 15)) 6 9 ∷ []
  pub load : reading_of (codes "loop: ld v0, 5")
      ≡ read (Some (codes "LOOP"))
      (code (row (codes "LD") (Vx ∷ Byte ∷ []) 0x6000)
      (register 0 ∷ expression (number (pos 5)) ∷ []))
  pub store : reading_of (codes "LD [I], VF")
      ≡ read None
      (code (row (codes "LD") (at_index ∷ Vx ∷ []) 0xF055) (special AtIndex ∷ register 15 ∷ []))
  pub definition : reading_of (codes "Q = P * (2 + P) - ~0")
      ≡ read (Some (codes "Q"))
      (equ (binary Subtract
      (binary Multiply (name (codes "P")) (binary Add (number (pos 2)) (name (codes "P"))))
      (unary Not (number (pos 0)))))
  pub bytes : reading_of (codes "DB Q, 'Z', @17, $1.1")
      ≡ read None (db (name (codes "Q") ∷ number (pos 90) ∷ number (pos 15) ∷ number (pos 5) ∷ []))
  pub nothing : reading_of (codes " ; a comment") ≡ read None empty
  pub bad_character : reading_of (codes "DB #") ≡ bad BadCharacter
  pub no_quote : reading_of (codes "DA 'abc") ≡ bad UnfinishedString
  pub unknown : reading_of (codes "FOO 1") ≡ bad UnknownWord
  pub operands : reading_of (codes "JP V1, 5") ≡ bad WrongOperands
  pub reserved : reading_of (codes "LD: DB 1") ≡ bad BadName
  pub outside : reading_of (codes "INCLUDE 'x'") ≡ bad NotInProfile
  pub deep : reading_of (codes "DB (((((((((((((((((1)))))))))))))))))") ≡ bad TooDeep
  pub xor : value (binary Xor (number (pos 6)) (number (pos 3))) no_names ≡ Ok (pos 5)
  pub floor : value (binary ShiftRight (number (negsuc 4)) (number (pos 1))) no_names
      ≡ Ok (negsuc 2)
  pub towards_zero : value (binary Divide (number (negsuc 4)) (number (pos 2))) no_names
      ≡ Ok (negsuc 1)
  pub too_far : value (binary ShiftLeft (number (pos 1)) (number (pos 31))) no_names ≡ Err Overflow
  pub left_first : value (binary Add (binary Divide (number (pos 1)) (number (pos 0)))
      (name (codes "X"))) no_names ≡ Err DivisionByZero
  pub word : word_of_form (row (codes "JP") (V0 ∷ Address ∷ []) 0xB000)
      (register 0 ∷ expression (number (pos 0x204)) ∷ []) no_names ≡ Ok 0xB204
