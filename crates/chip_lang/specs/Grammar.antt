-- The grammar of expressions (Chipper manual for the signs; the levels, and that a level groups to
-- the left, are chosen by this project).
use Rattle.std.specs.Prelude.{ℕ, suc, ◌≡◌, ◌==◌, if◌then◌else◌, false, pos, ℤ, List, [], ◌∷◌, ◌++◌, Option, Some, None}
use Rattle.chip_lang.specs.declared.lexeme.Lexeme.{Lexeme}
use Rattle.chip_lang.specs.declared.lexeme.Lexeme.TheVariants.{Word, Number, Text, Sign}
use Rattle.chip_lang.specs.declared.expr.Prefix.{Prefix}
use Rattle.chip_lang.specs.declared.expr.Prefix.TheVariants.{Plus, Minus, Not}
use Rattle.chip_lang.specs.declared.expr.Operator.{Operator}
use Rattle.chip_lang.specs.declared.expr.Operator.TheVariants.{ShiftLeft, ShiftRight, Multiply, Divide, Add, Subtract, And, Or, Xor}
use Rattle.chip_lang.specs.Tree.{Tree, number, name, unary, binary}
use Rattle.chip_lang.specs.Reserved.{is_reserved}

-- the prefix that a byte represents: + - ~
abbrev pub prefix_of : ℕ → Option Prefix
prefix_of c =
    if c == 43 then Some Plus
    else (if c == 45 then Some Minus else (if c == 126 then Some Not else None))

-- the operator that a byte represents: < > * / + - & | ^ and the backslash
abbrev pub operator_of : ℕ → Option Operator
operator_of c =
    if c == 60 then Some ShiftLeft else (if c == 62 then Some ShiftRight
    else (if c == 42 then Some Multiply else (if c == 47 then Some Divide
    else (if c == 43 then Some Add else (if c == 45 then Some Subtract
    else (if c == 38 then Some And else (if c == 124 then Some Or
    else (if c == 94 then Some Xor else (if c == 92 then Some Xor else None)))))))))

-- the level of an operator; operators of a smaller level bind more strongly
abbrev pub level_of : Operator → ℕ
level_of ShiftLeft = 2
level_of ShiftRight = 2
level_of Multiply = 3
level_of Divide = 3
level_of Add = 4
level_of Subtract = 4
level_of And = 5
level_of Or = 6
level_of Xor = 7

-- The tokens are an expression of a level: an atom at level 0, signs before an operand at level 1,
-- and operators at levels 2 to 7. The left side of an operator has the operator's own level and its
-- right side has a stronger level, so operators group to the left.
pub data Parses : ℕ → List Lexeme → Tree → Type 0 where
  a_number : {z : ℤ} → Parses 0 (Number z ∷ []) (number z)
  a_name : {w : List ℕ} → is_reserved w ≡ false → Parses 0 (Word w ∷ []) (name w)
  a_text : {b : ℕ} → Parses 0 (Text (b ∷ []) ∷ []) (number (pos b))
  in_parentheses : {inside all : List Lexeme} {e : Tree} → Parses 7 inside e
      → all ≡ Sign 40 ∷ inside ++ Sign 41 ∷ [] → Parses 0 all e
  with_prefix : (c : ℕ) {sign : Prefix} {ts : List Lexeme} {e : Tree} → prefix_of c ≡ Some sign
      → Parses 1 ts e → Parses 1 (Sign c ∷ ts) (unary sign e)
  with_operator : (c : ℕ) {l : ℕ} {sign : Operator} {left right all : List Lexeme} {a b : Tree} →
      operator_of c ≡ Some sign → level_of sign ≡ suc l → Parses (suc l) left a → Parses l right b →
      all ≡ left ++ Sign c ∷ right → Parses (suc l) all (binary sign a b)
  stronger : {l : ℕ} {ts : List Lexeme} {e : Tree} → Parses l ts e → Parses (suc l) ts e

-- the tokens are this expression
abbrev pub IsExpression : List Lexeme → Tree → Type 0
IsExpression ts e = Parses 7 ts e
