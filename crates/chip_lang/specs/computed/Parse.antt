-- The expression that a list of tokens begins with, computed within a number of steps (chosen by
-- this project). A law states that it is the expression of the grammar.
use Rattle.std.specs.Prelude.{ℕ, zero, suc, ◌+◌, ◌*◌, ◌==◌, if◌then◌else◌, pos, List, [], ◌∷◌, length, Option, Some, None}
use Rattle.chip_lang.specs.declared.lexeme.Lexeme.{Lexeme}
use Rattle.chip_lang.specs.declared.lexeme.Lexeme.TheVariants.{Word, Number, Text, Sign, Bad}
use Rattle.chip_lang.specs.declared.expr.Prefix.{Prefix}
use Rattle.chip_lang.specs.declared.expr.Operator.{Operator}
use Rattle.chip_lang.specs.Tree.{Tree, number, name, unary, binary}
use Rattle.chip_lang.specs.Reserved.{is_reserved}
use Rattle.chip_lang.specs.Grammar.{prefix_of, operator_of, level_of}

-- an expression and the tokens after it, if there is one
abbrev pub Parsed : Type 0
Parsed = Option (Tree × List Lexeme)

-- the level of an operator; 8 if there is none
abbrev pub level_or_8 : Option Operator → ℕ
level_or_8 None = 8
level_or_8 (Some sign) = level_of sign

-- the level of the operator at the front; 8 if there is none
abbrev pub front_level : List Lexeme → ℕ
front_level (Sign c ∷ ts) = level_or_8 (operator_of c)
front_level ts = 8

-- the sign before an operand that is at the front, if there is one
abbrev pub front_prefix : List Lexeme → Option Prefix
front_prefix (Sign c ∷ ts) = prefix_of c
front_prefix ts = None

-- the operator, if it has this level
abbrev pub if_level : Option Operator → ℕ → Option Operator
if_level None l = None
if_level (Some sign) l = if level_of sign == l then Some sign else None

abbrev pub front_operator : List Lexeme → ℕ → Option Operator
front_operator (Sign c ∷ ts) l = if_level (operator_of c) l
front_operator ts l = None

-- the next smaller level, which binds more strongly
abbrev pub below : ℕ → ℕ
below zero = zero
below (suc l) = l

-- the tokens after the first
abbrev pub after : List Lexeme → List Lexeme
after [] = []
after (t ∷ ts) = ts

-- continues with the expression that was found and the tokens after it
abbrev pub on_found : Parsed → (Tree → List Lexeme → Parsed) → Parsed
on_found None go = None
on_found (Some x) go = go x.0 x.1

-- an expression before a closing parenthesis, and the tokens after that parenthesis
abbrev pub closed : Tree → List Lexeme → Parsed
closed e (Sign c ∷ ts) = if c == 41 then Some (e, ts) else None
closed e ts = None

-- the number of a text of one byte, and the tokens after it
abbrev pub one_byte : List ℕ → List Lexeme → Parsed
one_byte [] ts = None
one_byte (b ∷ []) ts = Some (number (pos b), ts)
one_byte (b ∷ c ∷ bs) ts = None

-- a number, a name, a text of one byte, or the expression that `inner` finds in parentheses
abbrev pub atom : (List Lexeme → Parsed) → List Lexeme → Parsed
atom inner [] = None
atom inner (Word w ∷ ts) = if is_reserved w then None else Some (name w, ts)
atom inner (Number z ∷ ts) = Some (number z, ts)
atom inner (Text bs ∷ ts) = one_byte bs ts
atom inner (Bad f ∷ ts) = None
atom inner (Sign c ∷ ts) = if c == 40 then on_found (inner ts) closed else None

-- a sign before the expression that `operand` finds; without a sign, the expression that `plain`
-- finds
abbrev pub prefixed : (operand plain : List Lexeme → Parsed) → Option Prefix → List Lexeme → Parsed
prefixed operand plain None ts = plain ts
prefixed operand plain (Some sign) ts =
    on_found (operand (after ts)) (λ e rest. Some (unary sign e, rest))

-- a left side, then an operator and the right side that `right` finds, and so on with `more`;
-- without an operator, the left side alone
abbrev pub with_right : (List Lexeme → Parsed) → (Tree → List Lexeme → Parsed) → Option Operator
    → Tree → List Lexeme → Parsed
with_right right more None left ts = Some (left, ts)
with_right right more (Some sign) left ts =
    on_found (right (after ts)) (λ b rest. more (binary sign left b) rest)

abbrev mutual
  -- the expression of a level at the front
  pub parse : (steps level : ℕ) → List Lexeme → Parsed
  parse zero l ts = None
  parse (suc n) zero ts = atom (parse n 7) ts
  parse (suc n) (suc zero) ts = prefixed (parse n 1) (parse n 0) (front_prefix ts) ts
  parse (suc n) (suc (suc l)) ts = on_found (parse n (suc l) ts) (further n (suc (suc l)))

  -- a left side, and the operators of a level and their right sides after it
  pub further : (steps level : ℕ) → Tree → List Lexeme → Parsed
  further zero l left ts = None
  further (suc n) l left ts =
      with_right (parse n (below l)) (further n l) (front_operator ts l) left ts

-- an expression without tokens after it
abbrev pub whole : Parsed → Option Tree
whole None = None
whole (Some (e, [])) = Some e
whole (Some (e, t ∷ ts)) = None

-- the expression that the tokens form, if they form one
unfoldable pub expression_of : List Lexeme → Option Tree
expression_of ts = whole (parse (9 * length ts + 8) 7 ts)
