-- The reading of a line's tokens uses few names, because other tokens separate the names. Its
-- instruction has the form of its name and operands, with registers from V0 to VF.
use Rattle.std.proofs.Common.{◌≡◌, ℕ, suc, ◌+◌, ◌*◌, ◌≤◌, Bool, true, false, not, ◌==◌, ◌&&◌, ◌||◌, ltb, if◌then◌else◌, is_some, List, [], ◌∷◌, length, map, Option, Some, None, refl, subst, arith}
use Rattle.std.specs.Prelude.{option_and_then, option_map}
use Rattle.std.specs.List.{flat_map, list_all}
use Rattle.std.proofs.lemmas.Bool.{and_parts, and_from, cond_both}
use Rattle.std.proofs.lemmas.Bool.Decides.{nat_tests}
use Rattle.std.proofs.lemmas.List.{length-append}
use Rattle.chip_lang.specs.declared.fault.Fault.{Fault}
use Rattle.chip_lang.specs.declared.directive.Directive.{Directive}
use Rattle.chip_lang.specs.declared.directive.Directive.TheVariants.{Org, Ds, Db, Dw, Da, Align, Ifdef, Ifund, Define, Else, Endif, End, Options, Used, Xref}
use Rattle.chip_lang.specs.declared.form.Special.{Special}
use Rattle.chip_lang.specs.declared.form.Special.TheVariants.{AtIndex}
use Rattle.chip_lang.specs.declared.lexeme.Lexeme.{Lexeme}
use Rattle.chip_lang.specs.declared.lexeme.Lexeme.TheVariants.{Word, Sign}
use Rattle.chip_lang.specs.Keyword.{directive_of, special_of, register_of}
use Rattle.chip_lang.specs.Token.{is_between, digit_value}
use Rattle.chip_lang.specs.Tree.{Tree}
use Rattle.chip_lang.specs.Operand.{Operand, special, is_of_machine}
use Rattle.chip_lang.specs.Table.{Row}
use Rattle.chip_lang.specs.Form.{form_of}
use Rattle.chip_lang.specs.Grammar.{Parses, a_number, a_name, a_text, in_parentheses, with_prefix, with_operator, stronger}
use Rattle.chip_lang.specs.computed.Parse.{expression_of}
use Rattle.chip_lang.specs.Line.{is_sign_of, is_equ, Shape, definition, statement, after_label, after_word, shape_of, names_of, Body, org, ds, db, dw, da, equ, align, ifdef, ifund, define, else_line, endif, end_line, pieces, all_some, named, is_at_index, part_of_machine, or_expression, operand_of_tokens, operands_of, listed_values, one_text, one_name, one_switch, nothing, directive_body, takes_label, word_body, statement_body, Reading, bad, read, reading_of_tokens, body_of_shape, fault_or_body, first_that_holds, faults_in_order, first_name, code}
use Rattle.chip_lang.specs.Uses.{names_in, names_in_operand, names_in_body, names_used}
use Rattle.chip_lang.proofs.Sound.{only_expressions}

-- ---- expressions

-- a sign separates neighboring names of an expression
names_in_few : {l : ℕ} {ts : List Lexeme} {e : Tree} → Parses l ts e → 2 * length (names_in e) ≤ suc (length ts)
names_in_few a_number = omega arith
names_in_few (a_name h) = omega arith
names_in_few a_text = omega arith
names_in_few (in_parentheses {inside = inside} h e) =
    let within = names_in_few h in
    rw e (omega (arith, within, length-append inside (Sign 41 ∷ [])))
names_in_few (with_prefix c p h) = omega (arith, names_in_few h)
names_in_few (with_operator c {left = left} {right = right} {a = a} {b = b} p q h g e) =
    let first = names_in_few h in
    let second = names_in_few g in
    rw e (omega (arith, first, second, length-append left (Sign c ∷ right), length-append (names_in a) (names_in b)))
names_in_few (stronger h) = names_in_few h

-- an expression that is found, if any, has few enough names and passes a test
abbrev FewIn : {A : Type 0} → (A → List (List ℕ)) → (A → Bool) → (room : ℕ) → Option A → Type 0
FewIn names test room None = Unit {0}
FewIn names test room (Some x) = (2 * length (names x) ≤ room) × (test x ≡ true)

abbrev any_tree : Tree → Bool
any_tree e = true

expression_few : (ts : List Lexeme) → FewIn names_in any_tree (suc (length ts)) (expression_of ts)
expression_few ts = step (expression_of ts) refl
  where
    step : (o : Option Tree) → expression_of ts ≡ o → FewIn names_in any_tree (suc (length ts)) o
    step None h = tt
    step (Some e) h = (names_in_few (only_expressions ts e h), refl)

-- ---- registers

abbrev IsRegister : Option ℕ → Type 0
IsRegister None = Unit {0}
IsRegister (Some x) = ltb x 16 ≡ true

digit_small : (digit : ℕ) → (is_between 48 57 digit || is_between 65 70 digit) ≡ true → ltb (digit_value digit) 16 ≡ true
unfolding digit_value
digit_small digit h = grind (arith, nat_tests)

register_small : (w : List ℕ) → IsRegister (register_of w)
unfolding register_of
register_small (letter ∷ digit ∷ []) =
    let hexadecimal = is_between 48 57 digit || is_between 65 70 digit in
    cond_both (letter == 86 && hexadecimal) (Some (digit_value digit)) None IsRegister (λ h. digit_small digit (and_parts (letter == 86) hexadecimal h).1) (λ _. tt)
register_small w = tt

-- ---- lists of operands

-- the tokens of some pieces, and a comma before each
abbrev room_of : List (List Lexeme) → ℕ
room_of [] = 0
room_of (p ∷ ps) = suc (length p) + room_of ps

room_step : (t : Lexeme) (ts : List Lexeme) (b : Bool) (ps : List (List Lexeme)) → is_sign_of 44 t ≡ b → pieces ts ≡ ps → room_of ps ≡ suc (length ts) →
    room_of (pieces (t ∷ ts)) ≡ suc (suc (length ts))
room_step t ts true ps s e h = rw (s, e) (omega arith)
room_step t ts false [] s e h = absurd (omega arith)
room_step t ts false (p ∷ ps) s e h = rw (s, e) (omega arith)

room_of_pieces : (ts : List Lexeme) → room_of (pieces ts) ≡ suc (length ts)
room_of_pieces [] = omega arith
room_of_pieces (t ∷ ts) = room_step t ts (is_sign_of 44 t) (pieces ts) refl refl (room_of_pieces ts)

module _ {A : Type 0} (names : A → List (List ℕ)) (test : A → Bool) where
  abbrev FewInAll : (room : ℕ) → Option (List A) → Type 0
  FewInAll room os = FewIn (flat_map names) (list_all test) room os

  more_few : (m n : ℕ) (x : A) (os : Option (List A)) → FewIn names test m (Some x) → FewInAll n os → FewInAll (m + n) (option_and_then (λ xs. Some (x ∷ xs)) os)
  more_few m n x None p q = tt
  more_few m n x (Some xs) p q = (omega (arith, p.0, q.0, length-append (names x) (flat_map names xs)), and_from (test x) (list_all test xs) p.1 q.1)

  all_step : (m n : ℕ) (o : Option A) (os : List (Option A)) → FewIn names test m o → FewInAll n (all_some os) → FewInAll (m + n) (all_some (o ∷ os))
  all_step m n None os p q = tt
  all_step m n (Some x) os p q = more_few m n x (all_some os) p q

  all_few : (parse : List Lexeme → Option A) → ((ts : List Lexeme) → FewIn names test (suc (length ts)) (parse ts)) → (ps : List (List Lexeme)) →
      FewInAll (room_of ps) (all_some (map parse ps))
  all_few parse few [] = (omega arith, refl)
  all_few parse few (p ∷ ps) = all_step (suc (length p)) (room_of ps) (parse p) (map parse ps) (few p) (all_few parse few ps)

  pieces_few : (parse : List Lexeme → Option A) → ((ts : List Lexeme) → FewIn names test (suc (length ts)) (parse ts)) → (ts : List Lexeme) →
      FewInAll (suc (length ts)) (all_some (map parse (pieces ts)))
  pieces_few parse few ts = subst (λ room. FewInAll room (all_some (map parse (pieces ts)))) (room_of_pieces ts) (all_few parse few (pieces ts))

-- an operand, and all operands, with few enough names and with registers V0 to VF
abbrev OperandFew : (room : ℕ) → Option Operand → Type 0
OperandFew room o = FewIn names_in_operand is_of_machine room o

abbrev OperandsFew : (room : ℕ) → Option (List Operand) → Type 0
OperandsFew room os = FewIn (flat_map names_in_operand) (list_all is_of_machine) room os

named_few : (room : ℕ) (x : Option ℕ) (s : Option Special) → IsRegister x → OperandFew room (named x s)
named_few room (Some x) s h = (omega arith, h)
named_few room None (Some s) h = (omega arith, refl)
named_few room None None h = tt

part_few : (room : ℕ) (ts : List Lexeme) → OperandFew room (part_of_machine ts)
part_few room (Word w ∷ []) = named_few room (register_of w) (special_of w) (register_small w)
part_few room ts = cond_both (is_at_index ts) (Some (special AtIndex)) None (OperandFew room) (λ _. (omega arith, refl)) (λ _. tt)

or_few : (room : ℕ) (o : Option Operand) (e : Option Tree) → OperandFew room o → FewIn names_in any_tree room e → OperandFew room (or_expression o e)
or_few room (Some o) e p q = p
or_few room None None p q = tt
or_few room None (Some e) p q = q

operand_few : (ts : List Lexeme) → OperandFew (suc (length ts)) (operand_of_tokens ts)
operand_few ts = or_few (suc (length ts)) (part_of_machine ts) (expression_of ts) (part_few (suc (length ts)) ts) (expression_few ts)

operands_few : (ts : List Lexeme) → OperandsFew (suc (length ts)) (operands_of ts)
operands_few [] = (omega arith, refl)
operands_few (t ∷ ts) = pieces_few names_in_operand is_of_machine operand_of_tokens operand_few (t ∷ ts)

values_few : (ts : List Lexeme) → FewIn (flat_map names_in) (list_all any_tree) (suc (length ts)) (listed_values ts)
values_few ts = pieces_few names_in any_tree expression_of expression_few ts

-- ---- statements

-- a form is the form of some name and these operands
pub record IsFormed (form : Row) (operands : List Operand) : Type 0 where
  pub name : List ℕ
  pub fits : form_of name operands ≡ Some form
  pub registers : list_all is_of_machine operands ≡ true

-- an instruction has its form; any other statement qualifies
abbrev pub Formed : Body → Type 0
Formed (code form operands) = IsFormed form operands
Formed body = Unit {0}

-- a statement, if there is one, has few enough names and is formed
abbrev Few : (room : ℕ) → Option Body → Type 0
Few room None = Unit {0}
Few room (Some body) = (2 * length (names_in_body body) ≤ room) × Formed body

mapped_few : {A : Type 0} (names : A → List (List ℕ)) (test : A → Bool) (room : ℕ) (o : Option A) (body : A → Body) →
    ((x : A) → (names_in_body (body x) ≡ names x) × Formed (body x)) → FewIn names test room o → Few room (option_map body o)
mapped_few names test room None body same h = tt
mapped_few names test room (Some x) body same h = (rw (same x).0 h.0, (same x).1)

mapped_none : {A : Type 0} (room : ℕ) (o : Option A) (body : A → Body) → ((x : A) → (names_in_body (body x) ≡ []) × Formed (body x)) → Few room (option_map body o)
mapped_none room None body same = tt
mapped_none room (Some x) body same = (rw (same x).0 (omega arith), (same x).1)

nothing_few : (room : ℕ) (ts : List Lexeme) (body : Body) → names_in_body body ≡ [] → Formed body → Few room (nothing ts body)
nothing_few room [] body same formed = (rw same (omega arith), formed)
nothing_few room (t ∷ ts) body same formed = tt

expression_body : (ts : List Lexeme) (body : Tree → Body) → ((e : Tree) → (names_in_body (body e) ≡ names_in e) × Formed (body e)) → Few (suc (length ts)) (option_map body (expression_of ts))
expression_body ts body same = mapped_few names_in any_tree (suc (length ts)) (expression_of ts) body same (expression_few ts)

values_body : (ts : List Lexeme) (body : List Tree → Body) → ((es : List Tree) → (names_in_body (body es) ≡ flat_map names_in es) × Formed (body es)) →
    Few (suc (length ts)) (option_map body (listed_values ts))
values_body ts body same = mapped_few (flat_map names_in) (list_all any_tree) (suc (length ts)) (listed_values ts) body same (values_few ts)

directive_few : (d : Directive) (ts : List Lexeme) → Few (suc (length ts)) (directive_body d ts)
directive_few Org ts = expression_body ts org (λ e. (refl, tt))
directive_few Ds ts = expression_body ts ds (λ e. (refl, tt))
directive_few Db ts = values_body ts db (λ es. (refl, tt))
directive_few Dw ts = values_body ts dw (λ es. (refl, tt))
directive_few Da ts = mapped_none (suc (length ts)) (one_text ts) da (λ b. (refl, tt))
directive_few Align ts = mapped_none (suc (length ts)) (one_switch ts) align (λ b. (refl, tt))
directive_few Ifdef ts = mapped_none (suc (length ts)) (one_name ts) ifdef (λ n. (refl, tt))
directive_few Ifund ts = mapped_none (suc (length ts)) (one_name ts) ifund (λ n. (refl, tt))
directive_few Define ts = mapped_none (suc (length ts)) (one_name ts) (λ n. define) (λ n. (refl, tt))
directive_few Else ts = nothing_few (suc (length ts)) ts else_line refl tt
directive_few Endif ts = nothing_few (suc (length ts)) ts endif refl tt
directive_few End ts = nothing_few (suc (length ts)) ts end_line refl tt
directive_few Options ts = (omega arith, tt)
directive_few Used ts = (omega arith, tt)
directive_few Xref ts = (omega arith, tt)
directive_few d ts = tt

form_few : (room : ℕ) (w : List ℕ) (os : List Operand) (form : Option Row) → form_of w os ≡ form → OperandsFew room (Some os) → Few room (option_map (λ r. code r os) form)
form_few room w os None f h = tt
form_few room w os (Some r) f h = (h.0, record { name = w; fits = f; registers = h.1 })

instruction_few : (room : ℕ) (w : List ℕ) (os : Option (List Operand)) → OperandsFew room os →
    Few room (option_and_then (λ os. option_map (λ r. code r os) (form_of w os)) os)
instruction_few room w None h = tt
instruction_few room w (Some os) h = form_few room w os (form_of w os) refl h

word_few : (labelled : Bool) (w : List ℕ) (d : Option Directive) (ts : List Lexeme) → Few (suc (length ts)) (word_body labelled w d ts)
word_few labelled w (Some d) ts = cond_both (labelled && not (takes_label d)) None (directive_body d ts) (Few (suc (length ts))) (λ _. tt) (λ _. directive_few d ts)
word_few labelled w None ts = instruction_few (suc (length ts)) w (operands_of ts) (operands_few ts)

statement_few : (labelled : Bool) (ts : List Lexeme) → Few (length ts) (statement_body labelled ts)
statement_few labelled [] = (omega arith, tt)
statement_few labelled (Word w ∷ ts) = word_few labelled w (directive_of w) ts
statement_few labelled (t ∷ ts) = tt

-- ---- lines

more_room : (m n : ℕ) (body : Option Body) → m ≤ n → Few m body → Few n body
more_room m n None p h = tt
more_room m n (Some body) p h = (omega (arith, h.0), h.1)

definition_few : (n : ℕ) (w : List ℕ) (ts : List Lexeme) → suc (length ts) ≤ n → Few n (body_of_shape (definition w ts))
definition_few n w ts p = more_room (suc (length ts)) n (option_map equ (expression_of ts)) p (expression_body ts equ (λ e. (refl, tt)))

labelled_few : (n : ℕ) (label : Option (List ℕ)) (ts : List Lexeme) → length ts ≤ n → Few n (body_of_shape (statement label ts))
labelled_few n label ts p = more_room (length ts) n (statement_body (is_some label) ts) p (statement_few (is_some label) ts)

abbrev ShapeFew : (room : ℕ) → Shape → Type 0
ShapeFew room shape = Few room (body_of_shape shape)

after_label_few : (n : ℕ) (w : List ℕ) (ts : List Lexeme) → length ts ≤ n → Few n (body_of_shape (after_label w ts))
after_label_few n w [] p = labelled_few n (Some w) [] p
after_label_few n w (t ∷ ts) p =
    cond_both (is_equ t) (definition w ts) (statement (Some w) (t ∷ ts)) (ShapeFew n) (λ _. definition_few n w ts p) (λ _. labelled_few n (Some w) (t ∷ ts) p)

after_word_few : (n : ℕ) (w : List ℕ) (ts : List Lexeme) → suc (length ts) ≤ n → Few n (body_of_shape (after_word w ts))
after_word_few n w [] p = labelled_few n None (Word w ∷ []) p
after_word_few n w (t ∷ ts) p =
    let whole = statement None (Word w ∷ t ∷ ts) in
    cond_both (is_equ t) (definition w ts) (if is_sign_of 58 t then after_label w ts else whole) (ShapeFew n) (λ _. definition_few n w ts (omega arith))
    (λ _. cond_both (is_sign_of 58 t) (after_label w ts) whole (ShapeFew n) (λ _. after_label_few n w ts (omega arith)) (λ _. labelled_few n None (Word w ∷ t ∷ ts) p))

shape_few : (ts : List Lexeme) → Few (length ts) (body_of_shape (shape_of ts))
shape_few [] = labelled_few 0 None [] (omega arith)
shape_few (Word w ∷ ts) = after_word_few (suc (length ts)) w ts (omega arith)
shape_few (t ∷ ts) = labelled_few (suc (length ts)) None (t ∷ ts) (omega arith)

abbrev pub FormedReading : Reading → Type 0
FormedReading (bad fault) = Unit {0}
FormedReading (read label body) = Formed body

-- a reading has few enough names and is formed
abbrev pub IsFew : (room : ℕ) → Reading → Type 0
IsFew room r = (2 * length (names_used r) ≤ room) × FormedReading r

read_few : (room : ℕ) (fault : Option Fault) (name : Option (List ℕ)) (body : Option Body) → Few room body → IsFew room (fault_or_body fault name body)
read_few room None name (Some body) h = h
read_few room fault name body h = (omega arith, tt)

pub tokens_used_few : (ts : List Lexeme) → IsFew (length ts) (reading_of_tokens ts)
tokens_used_few ts =
    let shape = shape_of ts in
    read_few (length ts) (first_that_holds (faults_in_order ts shape)) (first_name (names_of shape)) (body_of_shape shape) (shape_few ts)
