-- The bytes of values, one value after another.
use Rattle.std.proofs.Common.{◌≡◌, ℕ, ◌+◌, ◌*◌, ◌<◌, ◌≤◌, List, [], ◌++◌, length, get_or, set, take, drop, map, Result, Ok, Err, refl, sym, ◌∙◌, ap, append_assoc, arith}
use Rattle.std.proofs.lemmas.List.{append-nil, at_drop_all, at_drop_more, length-append, length-take-le, take_at, take_more_set}
use Rattle.chip_lang.specs.declared.fault.Fault.{Fault}
use Rattle.chip_lang.specs.declared.expr.Expr.{Expr}
use Rattle.chip_lang.specs.Tree.{tree_of}
use Rattle.chip_lang.specs.Value.{◌>>=◌, Symbols}
use Rattle.chip_lang.specs.Code.{byte_of, word_bytes, datum_of, data_bytes}

-- an outcome with bytes put before its own; a fault stays a fault
abbrev pub after : List ℕ → Result (List ℕ) Fault → Result (List ℕ) Fault
after bytes (Ok rest) = Ok (bytes ++ rest)
after bytes (Err fault) = Err fault

pub after_none : (r : Result (List ℕ) Fault) → after [] r ≡ r
after_none (Ok rest) = refl
after_none (Err fault) = refl

after_more : (bytes more : List ℕ) (r : Result (List ℕ) Fault) → after (bytes ++ more) r ≡ after bytes (r >>= λ rest. Ok (more ++ rest))
after_more bytes more (Ok rest) = ap Ok (append_assoc bytes more rest)
after_more bytes more (Err fault) = refl

-- the values from a place on
abbrev pub data_from : ℕ → (ℕ → List ℕ) → List Expr → Symbols → ℕ → Result (List ℕ) Fault
data_from limit shown exprs symbols i = data_bytes limit shown (map tree_of (drop i exprs)) symbols

pub value_here : (limit : ℕ) (shown : ℕ → List ℕ) (exprs : List Expr) (symbols : Symbols) (i n : ℕ) (d : Expr) (bytes : List ℕ) → i < length exprs →
    datum_of limit (tree_of (get_or exprs i d)) symbols ≡ Ok n →
    after bytes (data_from limit shown exprs symbols i) ≡ after (bytes ++ shown n) (data_from limit shown exprs symbols (i + 1))
value_here limit shown exprs symbols i n d bytes h e =
    at_drop_more (λ l. after bytes (data_bytes limit shown (map tree_of l) symbols)) exprs i d h
    ∙ rw e (sym (after_more bytes (shown n) (data_from limit shown exprs symbols (i + 1))))

pub fault_here : (limit : ℕ) (shown : ℕ → List ℕ) (exprs : List Expr) (symbols : Symbols) (i : ℕ) (fault : Fault) (d : Expr) (bytes : List ℕ) → i < length exprs →
    datum_of limit (tree_of (get_or exprs i d)) symbols ≡ Err fault →
    after bytes (data_from limit shown exprs symbols i) ≡ Err fault
fault_here limit shown exprs symbols i fault d bytes h e =
    at_drop_more (λ l. after bytes (data_bytes limit shown (map tree_of l) symbols)) exprs i d h ∙ rw e refl

-- a byte is written at its place
pub byte_here : (exprs : List Expr) (symbols : Symbols) (i n : ℕ) (d : Expr) (bytes : List ℕ) → i < length exprs → i < length bytes →
    datum_of 256 (tree_of (get_or exprs i d)) symbols ≡ Ok n →
    after (take i bytes) (data_from 256 byte_of exprs symbols i) ≡ after (take (i + 1) (set bytes i n)) (data_from 256 byte_of exprs symbols (i + 1))
byte_here exprs symbols i n d bytes h room e =
    value_here 256 byte_of exprs symbols i n d (take i bytes) h e
    ∙ ap (λ some. after some (data_from 256 byte_of exprs symbols (i + 1))) (sym (take_more_set bytes i n room))

-- a word is written at its place
pub word_here : (exprs : List Expr) (symbols : Symbols) (i n : ℕ) (d : Expr) (bytes new : List ℕ) → i < length exprs → 2 * length exprs ≤ length bytes →
    datum_of 65536 (tree_of (get_or exprs i d)) symbols ≡ Ok n →
    new ≡ take (2 * i) bytes ++ word_bytes n ++ drop (2 * i + 2) bytes →
    after (take (2 * i) bytes) (data_from 65536 word_bytes exprs symbols i) ≡ after (take (2 * (i + 1)) new) (data_from 65536 word_bytes exprs symbols (i + 1))
word_here exprs symbols i n d bytes new h room e is =
    let long : length (take (2 * i) bytes ++ word_bytes n) ≡ 2 * (i + 1) =
    length-append (take (2 * i) bytes) (word_bytes n) ∙ omega (arith, length-take-le (2 * i) bytes (omega arith)) in
    let front : take (2 * (i + 1)) new ≡ take (2 * i) bytes ++ word_bytes n =
    ap (take (2 * (i + 1))) is ∙ take_at (take (2 * i) bytes ++ word_bytes n) (drop (2 * i + 2) bytes) (2 * (i + 1)) long in
    value_here 65536 word_bytes exprs symbols i n d (take (2 * i) bytes) h e
    ∙ ap (λ some. after some (data_from 65536 word_bytes exprs symbols (i + 1))) (sym front)

-- all values are written
pub data_end : (limit : ℕ) (shown : ℕ → List ℕ) (exprs : List Expr) (symbols : Symbols) (i : ℕ) (bytes : List ℕ) → length exprs ≤ i →
    after bytes (data_from limit shown exprs symbols i) ≡ Ok bytes
data_end limit shown exprs symbols i bytes h =
    at_drop_all (λ l. after bytes (data_bytes limit shown (map tree_of l) symbols)) exprs i h ∙ ap Ok (append-nil bytes)

pub ruleset data_steps = (after_none, fault_here, byte_here, word_here, data_end)
