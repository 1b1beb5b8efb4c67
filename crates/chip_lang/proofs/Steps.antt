-- One step of the parser.
use Rattle.std.proofs.Common.{◌≡◌, ℕ, zero, suc, ◌+◌, ◌*◌, ◌-◌, ◌<◌, ◌≤◌, List, [], ◌∷◌, length, Option, Some, None, refl, sym, ap, arith, ◌∙◌}
use Rattle.chip_lang.specs.declared.lexeme.Lexeme.{Lexeme}
use Rattle.chip_lang.specs.declared.lexeme.Lexeme.TheVariants.{Sign}
use Rattle.chip_lang.specs.declared.expr.Operator.{Operator}
use Rattle.chip_lang.specs.Tree.{Tree, binary}
use Rattle.std.proofs.Common.{take, drop, Result, Ok, Err}
use Rattle.std.specs.Borrow.{Bor}
use Rattle.std.specs.Result.{IfOk}
use Rattle.chip_lang.specs.inner.Seen.{seen}
use Rattle.chip_lang.proofs.Scan.{to_end}
use Rattle.chip_lang.proofs.Complete.{no_operator}
use Rattle.chip_lang.specs.computed.Parse.{Parsed, front_level, front_prefix, front_operator, after, below, on_found, closed, prefixed, with_right, parse, further}

-- a level: the expression that the stronger level finds, and the operators after it
pub level_step : (n k : ℕ) (ts rest : List Lexeme) (left : Tree) (y : Parsed) → 1 ≤ k → 9 * length ts + suc k < n → length rest < length ts →
    ((m : ℕ) → 9 * length ts + k < m → Some (left, rest) ≡ parse m k ts) →
    ((m : ℕ) → 9 * length rest + 8 < m → y ≡ further m (suc k) left rest) →
    y ≡ parse n (suc k) ts
level_step zero k ts rest left y p q r found more = absurd (omega arith)
level_step (suc n) zero ts rest left y p q r found more = absurd (omega arith)
level_step (suc n) (suc k) ts rest left y p q r found more =
    more n (omega arith) ∙ ap (λ f. on_found f (further n (suc (suc k)))) (found n (omega arith))

nothing_step : (n k : ℕ) (ts : List Lexeme) → 1 ≤ k → 9 * length ts + suc k < n →
    ((m : ℕ) → 9 * length ts + k < m → None ≡ parse m k ts) → None ≡ parse n (suc k) ts
nothing_step zero k ts p q none = absurd (omega arith)
nothing_step (suc n) zero ts p q none = absurd (omega arith)
nothing_step (suc n) (suc k) ts p q none = ap (λ f. on_found f (further n (suc (suc k)))) (none n (omega arith))

-- no sign before an operand
pub prefixed_step : (n : ℕ) (ts : List Lexeme) (y : Parsed) → 9 * length ts + 1 < n → None ≡ front_prefix ts →
    ((m : ℕ) → 9 * length ts < m → y ≡ parse m 0 ts) → y ≡ parse n 1 ts
prefixed_step zero ts y q front found = absurd (omega arith)
prefixed_step (suc n) ts y q front found = found n (omega arith) ∙ ap (λ o. prefixed (parse n 1) (parse n 0) o ts) front

-- parentheses
pub parentheses_step : (n c : ℕ) (ts : List Lexeme) (p : Parsed) → c ≡ 40 → 9 * suc (length ts) < n →
    ((m : ℕ) → 9 * length ts + 7 < m → p ≡ parse m 7 ts) → on_found p closed ≡ parse n 0 (Sign c ∷ ts)
parentheses_step zero c ts p is q found = absurd (omega arith)
parentheses_step (suc n) c ts p is q found = rw is (ap (λ f. on_found f closed) (found n (omega arith)))

-- an operator and its right side
pub further_step : (n k : ℕ) (sign : Operator) (left : Tree) (ts : List Lexeme) (p y : Parsed) → 0 < length ts → 9 * length ts + 8 < n → k ≤ 7 →
    Some sign ≡ front_operator ts (suc k) →
    ((m : ℕ) → 9 * length (after ts) + k < m → p ≡ parse m k (after ts)) →
    ((m : ℕ) → 9 * length (after ts) + 8 < m → y ≡ on_found p (λ b rest. further m (suc k) (binary sign left b) rest)) →
    y ≡ further n (suc k) left ts
further_step zero k sign left ts p y l q s front found more = absurd (omega arith)
further_step (suc n) k sign left [] p y l q s front found more = absurd (omega arith)
further_step (suc n) k sign left (t ∷ ts) p y l q s front found more =
    more n (omega arith)
    ∙ ap (λ f. on_found f (λ b rest. further n (suc k) (binary sign left b) rest)) (found n (omega arith))
    ∙ ap (λ o. with_right (parse n k) (further n (suc k)) o left (t ∷ ts)) front

-- no operator
further_end : (n level : ℕ) (left : Tree) (rest : List Lexeme) → 0 < n → None ≡ front_operator rest level → Some (left, rest) ≡ further n level left rest
further_end zero level left rest h front = absurd (omega arith)
further_end (suc n) level left rest h front = ap (λ o. with_right (parse n (below level)) (further n level) o left rest) front

-- ---- levels one after another

-- the result of a level is the result of a weaker one, if no operator of a level between them is at
-- the front
pub raised : (d k level : ℕ) (ts rest : List Lexeme) (left : Tree) → d + k ≡ level → 1 ≤ k → length rest < length ts →
    ((l : ℕ) → k < l → l ≤ level → None ≡ front_operator rest l) →
    ((m : ℕ) → 9 * length ts + k < m → Some (left, rest) ≡ parse m k ts) →
    (n : ℕ) → 9 * length ts + level < n → Some (left, rest) ≡ parse n level ts
raised zero k level ts rest left is low short plain found n b =
    let same : k ≡ level = omega arith in
    found n (omega arith) ∙ ap (λ l. parse n l ts) same
raised (suc d) k level ts rest left is low short plain found n b =
    let under : ℕ = d + k in
    let next : suc under ≡ level = omega arith in
    level_step n under ts rest left (Some (left, rest)) (omega arith) (omega arith) short
    (raised d k under ts rest left refl low short (λ l p q. plain l p (omega arith)) found)
    (λ m q. further_end m (suc under) left rest (omega arith) (plain (suc under) (omega arith) (omega arith)))
    ∙ ap (λ l. parse n l ts) next

-- the level of the operator at the front, after the expression that a stronger level finds
pub onward : (done next : ℕ) (ts rest : List Lexeme) (left : Tree) (y : Parsed) → 1 ≤ done → done < next → next ≡ front_level rest → length rest < length ts →
    ((m : ℕ) → 9 * length ts + done < m → Some (left, rest) ≡ parse m done ts) →
    ((m : ℕ) → 9 * length rest + 8 < m → y ≡ further m next left rest) →
    (n : ℕ) → 9 * length ts + next < n → y ≡ parse n next ts
onward done next ts rest left y low less front short found more n b =
    let under : ℕ = next - 1 in
    let is : suc under ≡ next = omega arith in
    level_step n under ts rest left y (omega arith) (omega arith) short
    (raised (under - done) done under ts rest left (omega arith) low short (λ l p q. sym (no_operator rest l (λ e. omega (arith, e, front, p, q)))) found)
    (λ m q. more m q ∙ ap (λ l. further m l left rest) (sym is))
    ∙ ap (λ l. parse n l ts) is

-- no operator of a remaining level is at the front
pub settled : (done level next : ℕ) (ts rest : List Lexeme) (left : Tree) → 1 ≤ done → done ≤ level → next ≡ front_level rest → length rest < length ts →
    ((l : ℕ) → done < l → l ≤ level → next ≡ l → ⊥) →
    ((m : ℕ) → 9 * length ts + done < m → Some (left, rest) ≡ parse m done ts) →
    (n : ℕ) → 9 * length ts + level < n → Some (left, rest) ≡ parse n level ts
settled done level next ts rest left low high front short stop found =
    raised (level - done) done level ts rest left (omega arith) low short (λ l p q. sym (no_operator rest l (λ e. stop l p q (front ∙ e)))) found

-- if a level finds nothing, a weaker level finds nothing
pub sunk : (d k level : ℕ) (ts : List Lexeme) → d + k ≡ level → 1 ≤ k →
    ((m : ℕ) → 9 * length ts + k < m → None ≡ parse m k ts) → (n : ℕ) → 9 * length ts + level < n → None ≡ parse n level ts
sunk zero k level ts is low none n b =
    let same : k ≡ level = omega arith in
    none n (omega arith) ∙ ap (λ l. parse n l ts) same
sunk (suc d) k level ts is low none n b =
    let under : ℕ = d + k in
    let next : suc under ≡ level = omega arith in
    nothing_step n under ts (omega arith) (omega arith) (sunk d k under ts refl low none) ∙ ap (λ l. parse n l ts) next

-- ---- the same steps for the results of functions

pub plain_ok : {E : Type 0} (e : Tree) (r : Result (Option (Bor (List Lexeme))) E) (ts : List Lexeme) → None ≡ front_prefix ts →
    IfOk r (λ found. (n : ℕ) → 9 * length ts < n → seen e found ≡ parse n 0 ts) →
    IfOk r (λ found. (n : ℕ) → 9 * length ts + 1 < n → seen e found ≡ parse n 1 ts)
plain_ok e (Err x) ts front found = tt
plain_ok e (Ok y) ts front found = λ n b. prefixed_step n ts (seen e y) b front found

pub parentheses_at : (n c : ℕ) (ts rest : List Lexeme) (p : Parsed) → ts ≡ Sign c ∷ rest → c ≡ 40 → 9 * length ts < n →
    ((m : ℕ) → 9 * length rest + 7 < m → p ≡ parse m 7 rest) → on_found p closed ≡ parse n 0 ts
parentheses_at n c ts rest p is open_sign q found =
    let long : 9 * suc (length rest) < n = omega (arith, ap length is) in
    parentheses_step n c rest p open_sign long found ∙ ap (parse n 0) (sym is)

pub slice_after : (ts : List Lexeme) → take (length ts - 1) (drop 1 ts) ≡ after ts
slice_after [] = refl
slice_after (t ∷ ts) = to_end (t ∷ ts) 1

pub further_at : (n level k : ℕ) (sign : Operator) (left : Tree) (ts rest : List Lexeme) (p y : Parsed) → suc k ≡ level → level ≤ 7 →
    rest ≡ after ts → 0 < length ts → 9 * length ts + 8 < n → Some sign ≡ front_operator ts level →
    ((m : ℕ) → 9 * length rest + k < m → p ≡ parse m k rest) →
    ((m : ℕ) → 9 * length rest + 8 < m → y ≡ on_found p (λ b more. further m level (binary sign left b) more)) →
    y ≡ further n level left ts
further_at n level k sign left ts rest p y is high same l q front found more =
    let at : (level : ℕ) (rest : List Lexeme) → suc k ≡ level → rest ≡ after ts → level ≤ 7 → Some sign ≡ front_operator ts level →
    ((m : ℕ) → 9 * length rest + k < m → p ≡ parse m k rest) →
    ((m : ℕ) → 9 * length rest + 8 < m → y ≡ on_found p (λ b more. further m level (binary sign left b) more)) →
    y ≡ further n level left ts =
    λ level rest is same high front found more.
    further_step n k sign left ts p y l q (omega arith) (front ∙ ap (front_operator ts) (sym is))
    (λ m b. found m (rw same b) ∙ ap (parse m k) same)
    (λ m b. more m (rw same b) ∙ ap (λ level. on_found p (λ b more. further m level (binary sign left b) more)) (sym is))
    ∙ ap (λ level. further n level left ts) is in
    at level rest is same high front found more

-- ---- operators one after another

-- the result after a left side and the tokens after it equals the result after an earlier left side
-- and more tokens
abbrev pub Leads : ℕ → Tree → List Lexeme → Tree → List Lexeme → Type 0
Leads level first ts left rest =
    (y : Parsed) → ((m : ℕ) → 9 * length rest + 8 < m → y ≡ further m level left rest) → (n : ℕ) → 9 * length ts + 8 < n → y ≡ further n level first ts

pub leads_on : (level k : ℕ) (first left right : Tree) (sign : Operator) (ts rest next more : List Lexeme) → Leads level first ts left rest → suc k ≡ level → level ≤ 7 →
    next ≡ after rest → 0 < length rest → Some sign ≡ front_operator rest level → length more < length next →
    ((m : ℕ) → 9 * length next + k < m → Some (right, more) ≡ parse m k next) → Leads level first ts (binary sign left right) more
leads_on level k first left right sign ts rest next more leads is high same l front short found =
    λ y go. leads y (λ m b. further_at m level k sign left rest next (Some (right, more)) y is high same l b front found (λ p q. go p (omega arith)))

pub leads_nowhere : (level k : ℕ) (first left : Tree) (sign : Operator) (ts rest next : List Lexeme) → Leads level first ts left rest → suc k ≡ level → level ≤ 7 →
    next ≡ after rest → 0 < length rest → Some sign ≡ front_operator rest level →
    ((m : ℕ) → 9 * length next + k < m → None ≡ parse m k next) → (n : ℕ) → 9 * length ts + 8 < n → None ≡ further n level first ts
leads_nowhere level k first left sign ts rest next leads is high same l front found =
    leads None (λ m b. further_at m level k sign left rest next None None is high same l b front found (λ p q. refl))

pub leads_end : (level : ℕ) (first left : Tree) (ts rest : List Lexeme) → Leads level first ts left rest → None ≡ front_operator rest level →
    (n : ℕ) → 9 * length ts + 8 < n → Some (left, rest) ≡ further n level first ts
leads_end level first left ts rest leads front = leads (Some (left, rest)) (λ m b. further_end m level left rest (omega arith) front)

pub after_shorter : (ts : List Lexeme) → length (after ts) ≤ length ts
after_shorter [] = omega arith
after_shorter (t ∷ ts) = omega arith
