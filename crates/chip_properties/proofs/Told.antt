-- The properties and faults after reading line by line.
use Rattle.std.proofs.Common.{◌≡◌, ℕ, zero, suc, ◌+◌, ◌≤◌, ◌==◌, Bool, true, false, if◌then◌else◌, List, [], ◌∷◌, ◌++◌, length, length-append, take, drop, Option, Some, None, Result, Ok, Err, IfOk, IfErr, All, inl, inr, ◌⊎◌, refl, sym, ◌∙◌, ap, add-one, arith}
use Rattle.std.specs.Prelude.{◌-◌, filter_map, nat_eq, slice_get}
use Rattle.std.proofs.lemmas.Bool.{cases_lt, eq-eqb, or_cases, or_left, or_right}
use Rattle.std.proofs.lemmas.Bool.Decides.{nat_tests}
use Rattle.std.specs.List.{list_any}
use Rattle.std.proofs.lemmas.Option.{none-some, same_Some, slice_get_within}
use Rattle.std.proofs.lemmas.List.Folds.{list_any-append}
use Rattle.std.proofs.lemmas.List.Elements.{All-nil, All-push}
use Rattle.std.specs.declared.alloc.AllocError.{AllocError}
use Rattle.chip_asm.specs.LineViews.{LineFacts, line_at, line_facts}
use Rattle.chip_symbols.specs.Names.{values_of}
use Rattle.chip_asm.specs.Program.{symbols_of}
use Rattle.chip_properties.specs.declared.fault.PropertyFault.{PropertyFault}
use Rattle.chip_properties.specs.declared.properties.Properties.{Properties}
use Rattle.chip_properties.specs.declared.stated.Stated.{Stated}
use Rattle.chip_properties.specs.declared.limits.TheConstants.{MOST_PROPERTIES}
use Rattle.chip_properties.specs.Language.{StateNothing}
use Rattle.chip_properties.specs.Lines.{IsStatedOn, StandsAt, StandsOn, States, count_in, property_start}
use Rattle.chip_properties.specs.Properties.{AreProperties, is_told}
use Rattle.chip_properties.specs.SeenProperty.{seen_property}
use Rattle.chip_properties.specs.Tokens.{property_tokens}
use Rattle.chip_properties.specs.computed.Reading.{stated_in}
use Rattle.chip_properties.specs.inner.Told.{IsAnswer, IsRead, nothing, a_property, a_fault}
use Rattle.chip_properties.proofs.SoundProperties.{found, stated_sound}
use Rattle.chip_properties.proofs.CompleteProperties.{nothing_stated}

states_there : (lines : List (List ℕ)) (number n start : ℕ) (f : LineFacts) → line_at lines number ≡ Some f → property_start f ≡ Some start → n ≡ number
    → States lines n start f
states_there lines number n start f at begins same = record { there = rw same at; begins = begins }

abbrev pub Answer : Type 0
Answer = Result (Result Stated PropertyFault) AllocError

abbrev pub IsStatedBy : List (List ℕ) → (number start address : ℕ) → List ℕ → Stated → Type 0
IsStatedBy lines number start address text s =
    (s.line ≡ number)
    × (stated_in (values_of (symbols_of lines)) (Some address) None (property_tokens (drop start text)) ≡ Some (found s.kind (seen_property s.property)))

-- the tokens state nothing, or the lines before them already state as many properties as are allowed
abbrev pub IsUnread : List (List ℕ) → (number start address : ℕ) → List ℕ → Type 0
IsUnread lines number start address text =
    StateNothing (values_of (symbols_of lines)) (Some address) (property_tokens (drop start text)) ⊎ (MOST_PROPERTIES ≤ count_in lines (number - 1))

-- a fault at an existing line
faulty : (lines : List (List ℕ)) (number start : ℕ) (f : LineFacts) (fault : PropertyFault) → line_at lines number ≡ Some f → property_start f ≡ Some start
    → StandsAt number f.text fault → IsUnread lines number start f.address f.text → StandsOn lines fault
faulty lines number start f fault at begins k unread = record {
  start = start;
  facts = f;
  on = states_there lines number fault.line start f at begins k.there;
  at = record { there = refl; rises = k.rises; inside = k.inside };
  unread = rw k.there unread;
}

abbrev pub FoundNothing : List (List ℕ) → (start address : ℕ) → List ℕ → Type 0
FoundNothing lines start address text =
    stated_in (values_of (symbols_of lines)) (Some address) None (property_tokens (drop start text)) ≡ None

pub answered : (lines : List (List ℕ)) (number start : ℕ) (f : LineFacts) (r : Answer) → line_at lines number ≡ Some f → property_start f ≡ Some start
    → IfOk r (λ read. IfOk read (IsStatedBy lines number start f.address f.text)) → IfOk r (λ read. IfErr read (StandsAt number f.text))
    → IfOk r (λ read. IfErr read (λ fault. FoundNothing lines start f.address f.text)) → IfOk r (IsAnswer lines number)
answered lines number start f (Ok (Ok s)) at begins h k none = (
  h.0,
  record {
    start = start;
    facts = f;
    on = states_there lines number s.line start f at begins h.0;
    states = stated_sound (values_of (symbols_of lines)) (Some f.address) (property_tokens (drop start f.text)) s.kind (seen_property s.property) h.1;
  },
)
answered lines number start f (Ok (Err fault)) at begins h k none =
    let unread = nothing_stated (values_of (symbols_of lines)) (Some f.address) (property_tokens (drop start f.text)) none in
    (k.there, faulty lines number start f fault at begins k (inl unread))
answered lines number start f (Err e) at begins h k none = tt

pub refused : (lines : List (List ℕ)) (number start : ℕ) (f : LineFacts) (fault : PropertyFault) → line_at lines number ≡ Some f → property_start f ≡ Some start
    → StandsAt number f.text fault → MOST_PROPERTIES ≤ count_in lines (number - 1) → IsAnswer lines number (Err fault)
refused lines number start f fault at begins k many = (k.there, faulty lines number start f fault at begins k (inr many))

-- a line that doesn't exist, or states nothing
pub no_line : (lines : List (List ℕ)) (number : ℕ) → None ≡ line_at lines number → (start : ℕ) (f : LineFacts) → States lines number start f → ⊥
no_line lines number none start f on = none-some f (none ∙ on.there)

pub no_property : (lines : List (List ℕ)) (number : ℕ) (g : LineFacts) → Some g ≡ line_at lines number → None ≡ property_start g
    → (start : ℕ) (f : LineFacts) → States lines number start f → ⊥
no_property lines number g there none start f on =
    none-some start (none ∙ ap property_start (same_Some g f (there ∙ on.there)) ∙ on.begins)

-- ---- over all lines

any_before : {A : Type 0} (p : A → Bool) (xs : List A) (x : A) → list_any p xs ≡ true → list_any p (xs ++ x ∷ []) ≡ true
any_before p xs x h = rw (list_any-append p xs (x ∷ [])) (or_left (list_any p xs) _ h)

any_last : {A : Type 0} (p : A → Bool) (xs : List A) (x : A) → p x ≡ true → list_any p (xs ++ x ∷ []) ≡ true
any_last p xs x h = rw (list_any-append p xs (x ∷ [])) (or_right (list_any p xs) _ (or_left (p x) _ h))

abbrev pub Numbered : List Stated → List PropertyFault → ℕ → Type 0
Numbered stated faults n = is_told stated faults n ≡ true

told_before : (lines : List (List ℕ)) (number : ℕ) (old new : Properties) (n : ℕ) → IsRead lines number old new
    → Numbered old.stated.items old.faults.items n → Numbered new.stated.items new.faults.items n
told_before lines number old new n (nothing none s f) h = rw (s, f) h
told_before lines number old new n (a_property {s = p} there is s f) h =
    rw (s, f) (elim (or_cases (list_any (λ q. q.line == n) old.stated.items) _ h) [
      | inl w ↦ or_left _ _ (any_before (λ q. q.line == n) old.stated.items p w)
      | inr w ↦ or_right _ _ w
    ])
told_before lines number old new n (a_fault {fault = p} there is s f) h =
    rw (s, f) (elim (or_cases (list_any (λ q. q.line == n) old.stated.items) _ h) [
      | inl w ↦ or_left _ _ w
      | inr w ↦ or_right _ _ (any_before (λ q. q.line == n) old.faults.items p w)
    ])

told_now : (lines : List (List ℕ)) (number : ℕ) (old new : Properties) → IsRead lines number old new
    → (start : ℕ) (f : LineFacts) → States lines number start f → Numbered new.stated.items new.faults.items number
told_now lines number old new (nothing none s f) start g on = absurd (none start g on)
told_now lines number old new (a_property {s = p} there is s f) start g on =
    rw s (or_left _ _ (any_last (λ q. q.line == number) old.stated.items p (eq-eqb p.line number there)))
told_now lines number old new (a_fault {fault = p} there is s f) start g on =
    rw f (or_right _ _ (any_last (λ q. q.line == number) old.faults.items p (eq-eqb p.line number there)))

-- the first `count` lines
pub record UpTo (lines : List (List ℕ)) (count : ℕ) (found : Properties) : Type 0 where
  pub stated : All (IsStatedOn lines) found.stated.items
  pub faults : All (StandsOn lines) found.faults.items
  pub told : (n start : ℕ) (f : LineFacts) → n ≤ count → States lines n start f → Numbered found.stated.items found.faults.items n
  pub counted : length found.stated.items + length found.faults.items ≡ count_in lines count

-- ---- the number of properties and faults

abbrev pub one_if : Option ℕ → ℕ
one_if None = 0
one_if (Some start) = 1

abbrev pub one_on : Option LineFacts → ℕ
one_on None = 0
one_on (Some f) = one_if (property_start f)

one_put : (f : LineFacts) (more : List LineFacts) (o : Option ℕ) → property_start f ≡ o
    → length (filter_map property_start (f ∷ more)) ≡ one_if o + length (filter_map property_start more)
one_put f more None e = rw e (omega arith)
one_put f more (Some start) e = rw e (omega arith)

taken_more : (facts : List LineFacts) (n : ℕ) → length (filter_map property_start (take (suc n) facts))
    ≡ length (filter_map property_start (take n facts)) + one_on (slice_get facts n)
taken_more [] zero = refl
taken_more [] (suc n) = refl
taken_more (f ∷ facts) zero = one_put f [] (property_start f) refl ∙ omega arith
taken_more (f ∷ facts) (suc n) =
    let first = one_put f (take (suc n) facts) (property_start f) refl in
    let again = one_put f (take n facts) (property_start f) refl in
    omega (arith, first, again, taken_more facts n)

line_is : (lines : List (List ℕ)) (count : ℕ) → line_at lines (count + 1) ≡ slice_get (line_facts lines) count
line_is lines count = rw (nonzero count, add-sub count) refl
  where
    nonzero : (n : ℕ) → nat_eq (n + 1) 0 ≡ false
    nonzero n = grind (arith, nat_tests)

    add-sub : (n : ℕ) → n + 1 - 1 ≡ n
    add-sub n = omega arith

count_more : (lines : List (List ℕ)) (count : ℕ) → count_in lines (count + 1) ≡ count_in lines count + one_on (line_at lines (count + 1))
count_more lines count = ap (count_in lines) (add-one count) ∙ taken_more (line_facts lines) count ∙ ap (λ o. count_in lines count + one_on o) (sym (line_is lines count))

one_there : (lines : List (List ℕ)) (number start : ℕ) (f : LineFacts) → States lines number start f → one_on (line_at lines number) ≡ 1
one_there lines number start f on = rw (on.there, on.begins) refl

none_there : (lines : List (List ℕ)) (number : ℕ) → ((start : ℕ) (f : LineFacts) → States lines number start f → ⊥) → one_on (line_at lines number) ≡ 0
none_there lines number none = by_line (line_at lines number) refl
  where
    by_line : (o : Option LineFacts) → line_at lines number ≡ o → one_on o ≡ 0
    by_line None e = refl
    by_line (Some f) e = by_start (property_start f) refl
      where
        by_start : (o : Option ℕ) → property_start f ≡ o → one_if o ≡ 0
        by_start None h = refl
        by_start (Some start) h = absurd (none start f (record { there = e; begins = h }))

counted_now : (lines : List (List ℕ)) (number : ℕ) (old new : Properties) → IsRead lines number old new
    → length new.stated.items + length new.faults.items ≡ length old.stated.items + length old.faults.items + one_on (line_at lines number)
counted_now lines number old new (nothing none s f) = rw (s, f) (omega (arith, none_there lines number none))
counted_now lines number old new (a_property {s = p} there is s f) =
    let one = one_there lines p.line is.start is.facts is.on in
    let at = rw there at one in
    rw (s, f) (omega (arith, at, length-append old.stated.items (p ∷ [])))
counted_now lines number old new (a_fault {fault = p} there is s f) =
    let one = one_there lines p.line is.start is.facts is.on in
    let at = rw there at one in
    rw (s, f) (omega (arith, at, length-append old.faults.items (p ∷ [])))

stated_on : (lines : List (List ℕ)) (number : ℕ) (old new : Properties) → IsRead lines number old new → All (IsStatedOn lines) old.stated.items
    → All (IsStatedOn lines) new.stated.items
stated_on lines number old new (nothing none s f) h = rw s h
stated_on lines number old new (a_property {s = p} there is s f) h = rw s (All-push (IsStatedOn lines) old.stated.items p h is)
stated_on lines number old new (a_fault there is s f) h = rw s h

faults_on : (lines : List (List ℕ)) (number : ℕ) (old new : Properties) → IsRead lines number old new → All (StandsOn lines) old.faults.items
    → All (StandsOn lines) new.faults.items
faults_on lines number old new (nothing none s f) h = rw f h
faults_on lines number old new (a_property there is s f) h = rw f h
faults_on lines number old new (a_fault {fault = p} there is s f) h = rw f (All-push (StandsOn lines) old.faults.items p h is)

pub up_to_more : (lines : List (List ℕ)) (count : ℕ) (old new : Properties) → UpTo lines count old → IsRead lines (count + 1) old new
    → UpTo lines (count + 1) new
up_to_more lines count old new so more = record {
  stated = stated_on lines (count + 1) old new more so.stated;
  faults = faults_on lines (count + 1) old new more so.faults;
  told = λ n start f low on. elim (cases_lt count n) [
    | inl w ↦ let now : n ≡ count + 1 = omega arith in rw now (told_now lines (count + 1) old new more start f (rw now at on))
    | inr w ↦ told_before lines (count + 1) old new n more (so.told n start f w on)
  ];
  counted = omega (arith, counted_now lines (count + 1) old new more, so.counted, count_more lines count);
}

pub none_yet : (lines : List (List ℕ)) (new : Properties) → new.stated.items ≡ [] → new.faults.items ≡ [] → UpTo lines 0 new
none_yet lines new s f = record {
  stated = rw s (All-nil (IsStatedOn lines));
  faults = rw f (All-nil (StandsOn lines));
  told = λ n start g low on. absurd (no_line_0 lines n start g low on);
  counted = rw (s, f) refl;
}
  where
    no_line_0 : (lines : List (List ℕ)) (n start : ℕ) (f : LineFacts) → n ≤ 0 → States lines n start f → ⊥
    no_line_0 lines zero start f low on = none-some f on.there
    no_line_0 lines (suc n) start f low on = omega arith

-- the number of an existing line is at most the number of lines
line_low : (lines : List (List ℕ)) (n : ℕ) (f : LineFacts) → line_at lines n ≡ Some f → n ≤ length (line_facts lines)
line_low lines n f h = by_test (nat_eq n 0) h
  where
    by_test : (b : Bool) → (if b then None else slice_get (line_facts lines) (n - 1)) ≡ Some f → n ≤ length (line_facts lines)
    by_test true h = absurd (none-some f h)
    by_test false h = let low = slice_get_within (line_facts lines) (n - 1) f h in omega arith

pub all_told : (lines : List (List ℕ)) (count : ℕ) (new : Properties) → length (line_facts lines) ≤ count → UpTo lines count new → AreProperties lines new
all_told lines count new many so = record {
  stated = so.stated;
  faults = so.faults;
  told = λ number start f on. let low = line_low lines number f on.there in so.told number start f (omega arith) on;
}
