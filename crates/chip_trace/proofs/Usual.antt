-- The columns that a usual trace starts with.
use Rattle.std.proofs.Common.{◌≡◌, ◌∙◌, ℕ, zero, suc, ◌+◌, ◌-◌, ◌<◌, Bool, List, [], ◌∷◌, ◌++◌, map, take, drop, length, get_or, slice_index, codes, sym, ap, arith, Option, Some, None, IfSome, Bor, append_assoc, append-nil, take_all, length-drop}
use Rattle.std.specs.Fmt.{decimal}
use Rattle.std.specs.List.{flat_map, join_with_byte, range_with_len, slice_get, PartBy}
use Rattle.hex.specs.Hex.{encode_with, lower_digits}
use Rattle.std.proofs.lemmas.Grind.{flat_map-append}
use Rattle.std.proofs.lemmas.List.FromFn.{map-range_with_len_more}
use Rattle.std.proofs.lemmas.List.{map-id, flat_map_more, take-append-drop, take_more_same}
use Rattle.std.proofs.lemmas.Option.{get_or_from_slice_get, slice_get_within}
use Rattle.chip_machine.specs.State.{State}
use Rattle.chip_trace.specs.Columns.{register_columns}
use Rattle.chip_trace.specs.Digits.{hex_byte, hex_word, spaced}
use Rattle.chip_trace.specs.Json.{json_line_of, json_member}
use Rattle.chip_trace.specs.Line.{field_of, line_of, word_of}
use Rattle.chip_trace.specs.inner.Usual.{first_columns, fixed_fields, register_member, BeginsAsUsual}
use Rattle.chip_trace.specs.declared.column.Column.{Column}
use Rattle.chip_trace.specs.declared.column.Column.TheVariants.{Step, Pc, Word, Register, Index, Delay, Sound, Depth, Draws}
use Rattle.chip_trace.proofs.Joined.{joined_is}

-- a register in a row of registers
register_there : (n a x : ℕ) (rest : List Column) → x < n → slice_get (map (λ y. Register y) (range_with_len a n) ++ rest) x ≡ Some (Register (a + x))
register_there zero a x rest lt = absurd (omega arith)
register_there (suc n) a zero rest lt = ap (λ y. Some (Register y)) (let e : a ≡ a + 0 = omega arith in e)
register_there (suc n) a (suc x) rest lt = register_there n (a + 1) x rest (omega arith) ∙ ap (λ y. Some (Register y)) (let e : a + 1 + x ≡ a + suc x = omega arith in e)

-- a register's index among the first columns
pub usual_register : (x : ℕ) → x < 16 → slice_get first_columns (3 + x) ≡ Some (Register x)
unfolding first_columns
usual_register x lt =
    let place : 3 + x ≡ suc (suc (suc x)) = omega arith in
    let here : 0 + x ≡ x = omega arith in
    ap (slice_get first_columns) place
    ∙ register_there 16 0 x (Index ∷ Delay ∷ Sound ∷ Depth ∷ Draws ∷ []) lt
    ∙ ap (λ y. Some (Register y)) here

-- two lists with the same first n elements, and an equal element after them
pub same_front : (xs ys : List Column) (n : ℕ) (x : Column) → n < length xs → x ≡ get_or xs n x → slice_get ys n ≡ Some x → take n xs ≡ take n ys → take (n + 1) xs ≡ take (n + 1) ys
same_front xs ys n x inside here there front =
    take_more_same xs ys n x inside (slice_get_within ys n x there) front (sym here ∙ sym (get_or_from_slice_get ys n x x there))

-- columns that start with all of the first columns
pub begins_so : (columns : List Column) (n : ℕ) → n ≡ 24 → take n columns ≡ take n first_columns → BeginsAsUsual columns
unfolding first_columns
begins_so columns n all front =
    let same : take 24 columns ≡ take 24 first_columns = rw all at front in
    sym (take-append-drop 24 columns) ∙ ap (λ l. l ++ drop 24 columns) same

-- the columns after the first columns
after_first : (columns : List Column) → BeginsAsUsual columns → columns ≡ first_columns ++ take (length columns - 24) (drop 24 columns)
after_first columns usual =
    usual ∙ ap (λ l. first_columns ++ l) (sym (take_all (length columns - 24) (drop 24 columns) (omega (arith, length-drop 24 columns))))

pub after_get : (columns : List Column) (found : Option (Bor (List Column))) → BeginsAsUsual columns → PartBy (λ (x : Bor (List Column)). x.now) columns 24 (length columns) found
    → IfSome found (λ others. columns ≡ first_columns ++ others.now)
after_get columns None usual got = tt
after_get columns (Some others) usual got = after_first columns usual ∙ ap (λ l. first_columns ++ l) (sym got.0.2)

-- pieces separated by a byte, split after the first pieces
joined_after : {A : Type 0} (between : ℕ) (f : A → List ℕ) (x : A) (xs ys : List A) →
    join_with_byte between (map f (x ∷ xs)) ++ flat_map (λ y. between ∷ f y) ys ≡ join_with_byte between (map f (x ∷ (xs ++ ys)))
joined_after between f x xs ys =
    ap (λ l. l ++ flat_map (λ y. between ∷ f y) ys) (joined_is between f x xs)
    ∙ append_assoc (f x) (flat_map (λ y. between ∷ f y) xs) (flat_map (λ y. between ∷ f y) ys)
    ∙ ap (λ l. f x ++ l) (sym (flat_map-append (λ y. between ∷ f y) xs ys))
    ∙ sym (joined_is between f x (xs ++ ys))

abbrev later_columns : List Column
later_columns = Pc ∷ Word ∷ (register_columns ++ (Index ∷ Delay ∷ Sound ∷ Depth ∷ Draws ∷ []))

-- a line that starts like a usual line
pub line_after : (old : List ℕ) (step : ℕ) (s : State) (is_last : Bool) (others : List Column) →
    (old ++ line_of first_columns step s is_last) ++ flat_map (λ column. 32 ∷ field_of column step s is_last) others
    ≡ old ++ line_of (first_columns ++ others) step s is_last
unfolding line_of first_columns
line_after old step s is_last others =
    append_assoc old (line_of first_columns step s is_last) (flat_map (λ column. 32 ∷ field_of column step s is_last) others)
    ∙ ap (λ l. old ++ l) (joined_after 32 (λ (column : Column). field_of column step s is_last) Step later_columns others)

-- an object that starts like a usual object
pub object_after : (old : List ℕ) (step : ℕ) (s : State) (is_last : Bool) (others : List Column) →
    ((old ++ 123 ∷ join_with_byte 44 (map (λ (column : Column). json_member column step s is_last) first_columns))
    ++ flat_map (λ column. 44 ∷ json_member column step s is_last) others) ++ 125 ∷ []
    ≡ old ++ json_line_of (first_columns ++ others) step s is_last
unfolding json_line_of first_columns
object_after old step s is_last others =
    let members : List ℕ = join_with_byte 44 (map (λ (column : Column). json_member column step s is_last) first_columns) in
    let rest : List ℕ = flat_map (λ (column : Column). 44 ∷ json_member column step s is_last) others in
    ap (λ l. l ++ 125 ∷ []) (append_assoc old (123 ∷ members) rest)
    ∙ append_assoc old (123 ∷ (members ++ rest)) (125 ∷ [])
    ∙ ap (λ l. old ++ (123 ∷ l ++ 125 ∷ [])) (joined_after 44 (λ (column : Column). json_member column step s is_last) Step later_columns others)

-- ---- the pieces of a usual line

fields_joined : (a b c d e f g h : List ℕ) → ((((a ++ b) ++ ((c ++ d) ++ e)) ++ f) ++ g) ++ h ≡ a ++ (b ++ (c ++ (d ++ (e ++ (f ++ (g ++ h))))))
fields_joined a b c d e f g h = simp append_assoc

-- the start of a usual line, piece by piece
pub first_fields : (old : List ℕ) (step : ℕ) (s : State) (is_last : Bool) →
    ((((old ++ decimal step) ++ fixed_fields s) ++ decimal (length s.core.frames)) ++ 32 ∷ []) ++ decimal s.core.draws
    ≡ old ++ line_of first_columns step s is_last
unfolding line_of first_columns encode_with
first_fields old step s is_last =
    fields_joined old (decimal step) (32 ∷ hex_word s.core.pc ++ 32 ∷ hex_word (word_of s))
    (spaced hex_byte (map (slice_index s.core.registers) (range_with_len 0 16)))
    (32 ∷ hex_word s.core.index ++ spaced hex_byte (s.core.delay ∷ s.core.sound ∷ []) ++ 32 ∷ [])
    (decimal (length s.core.frames)) (32 ∷ []) (decimal s.core.draws)

-- ---- the pieces of a usual object

-- the member of one more register
pub register_more : (old text registers : List ℕ) (n : ℕ) → text ≡ old ++ flat_map (λ x. register_member x (slice_index registers x)) (range_with_len 0 n) →
    (text ++ (44 ∷ 34 ∷ 118 ∷ slice_index lower_digits n ∷ 34 ∷ 58 ∷ [])) ++ decimal (slice_index registers n)
    ≡ old ++ flat_map (λ x. register_member x (slice_index registers x)) (range_with_len 0 (n + 1))
register_more old text registers n so_far =
    let member : ℕ → List ℕ = λ x. register_member x (slice_index registers x) in
    append_assoc text (44 ∷ 34 ∷ 118 ∷ slice_index lower_digits n ∷ 34 ∷ 58 ∷ []) (decimal (slice_index registers n))
    ∙ ap (λ l. l ++ member n) so_far
    ∙ flat_map_more member old (range_with_len 0 n) n
    ∙ ap (λ l. old ++ flat_map member l) (sym (sym (map-id _) ∙ map-range_with_len_more (λ x. x) 0 n n (omega arith) ∙ ap (λ l. l ++ n ∷ []) (map-id _)))

members_joined : (a b c d e f g h i j k l m n o p q r : List ℕ) →
    ((((((((((((((((a ++ b) ++ c) ++ d) ++ e) ++ f) ++ g) ++ h) ++ i) ++ j) ++ k) ++ l) ++ m) ++ n) ++ o) ++ p) ++ q) ++ r
    ≡ a ++ (b ++ (c ++ (d ++ (e ++ (f ++ (g ++ (h ++ (i ++ (j ++ (k ++ (l ++ (m ++ (n ++ (o ++ (p ++ (q ++ (r ++ [])))))))))))))))))
members_joined a b c d e f g h i j k l m n o p q r = simp (append_assoc, append-nil)

abbrev last_columns : List Column
last_columns = Index ∷ Delay ∷ Sound ∷ Depth ∷ Draws ∷ []

-- the start of a usual object, piece by piece
pub first_members : (old : List ℕ) (step : ℕ) (s : State) (is_last : Bool) →
    ((((((((((((((((old ++ codes "{\"step\":") ++ decimal step) ++ codes ",\"pc\":") ++ decimal s.core.pc) ++ codes ",\"word\":") ++ decimal (word_of s))
    ++ flat_map (λ x. register_member x (slice_index s.core.registers x)) (range_with_len 0 16))
    ++ codes ",\"i\":") ++ decimal s.core.index) ++ codes ",\"dt\":") ++ decimal s.core.delay) ++ codes ",\"st\":") ++ decimal s.core.sound)
    ++ codes ",\"depth\":") ++ decimal (length s.core.frames)) ++ codes ",\"draws\":") ++ decimal s.core.draws
    ≡ old ++ 123 ∷ join_with_byte 44 (map (λ (column : Column). json_member column step s is_last) first_columns)
unfolding first_columns
first_members old step s is_last =
    let member : Column → List ℕ = λ column. json_member column step s is_last in
    members_joined old (codes "{\"step\":") (decimal step) (codes ",\"pc\":") (decimal s.core.pc) (codes ",\"word\":") (decimal (word_of s))
    (flat_map (λ x. register_member x (slice_index s.core.registers x)) (range_with_len 0 16))
    (codes ",\"i\":") (decimal s.core.index) (codes ",\"dt\":") (decimal s.core.delay) (codes ",\"st\":") (decimal s.core.sound)
    (codes ",\"depth\":") (decimal (length s.core.frames)) (codes ",\"draws\":") (decimal s.core.draws)
    ∙ ap (λ l. old ++ 123 ∷ (member Step ++ (44 ∷ (member Pc ++ (44 ∷ (member Word ++ l)))))) (sym (flat_map-append (λ column. 44 ∷ member column) register_columns last_columns))
    ∙ ap (λ l. old ++ 123 ∷ l) (sym (joined_is 44 member Step later_columns))
