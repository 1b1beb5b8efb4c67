-- Arguments that `clap` accepts name one of the program's own commands, and not `help`, which
-- `clap` answers by itself.
use Rattle.std.proofs.Common.{◌≡◌, inl, inr, List, [], ◌∷◌, ◌++◌, Bool, true, false, ℕ, Option, Some, None, codes, map, refl, sym, ◌∙◌, ap, subst, fold, ◌||◌, ◌&&◌, if◌then◌else◌, option_map}
use Rattle.std.proofs.lemmas.Slice.Eq.{bytes_eq-Decides}
use Rattle.std.specs.List.{find, list_all}
use Rattle.std.specs.Str.{bytes_eq}
use Rattle.clap.specs.Faults.{other_fault, turn_fault, walk_fault, word_fault}
use Rattle.clap.specs.Kinds.{Kinds, or_else}
use Rattle.clap.specs.Simple.{App, Shape, argument_words, built, entered, label_of, names_of, rows_at}
use Rattle.clap.specs.Walk.{Held, Names, Outcome, Row, Rule, Step, Text, Waiting, Walk, after_flag, after_step, answers_to, arg_by_index, arg_by_long, bundle, idle, long_met, long_or_other, nothing_held, option, plain_word, stop_after, positional, short_or_plain, subcommand_met, subcommand_or_other, to_positional, walk_from, walked, walked_from, word_met}
use Rattle.clap.specs.Walk as walking
use Rattle.clap.specs.Lexer.{long_of, short_of}
use Rattle.clap.specs.Words.{fault_of, subcommand_of}
use Rattle.chip_arguments.specs.CommandLine.{chipbench}
use Rattle.chip_arguments.specs.inner.Built.{IsOneOf, command_names}
use Rattle.chip_arguments.proofs.CommandExamples.{has_none, names_built, no_aliases, takes_help}

-- the name of the command at which a walk stopped isn't `help`
abbrev IsNoHelp : Option (Text × List Text) → Type 0
IsNoHelp None = Unit {0}
IsNoHelp (Some p) = p.0 ≡ codes "help" → ⊥

abbrev IsNoCommand : Step → Type 0
IsNoCommand (walking.subcommand name) = ⊥
IsNoCommand _ = Unit {0}

or_else_nil : (a b : Kinds) → or_else a b ≡ [] → (a ≡ []) × (b ≡ [])
or_else_nil [] b e = (refl, e)
or_else_nil (k ∷ ks) b e = absurd (some_nil e)
  where
    some_nil : k ∷ ks ≡ [] → ⊥
    some_nil h = cc

-- ---- arguments that name no command

plain_step : (c : List Rule) (waiting : Waiting) (word : Text) (h : Held) → IsNoCommand (plain_word c waiting word h).1
plain_step c idle word h = tt
plain_step c (option id) word h = tt
plain_step c positional word h = tt

flag_step : (c : List Rule) (waiting : Waiting) (word : Text) (h : Held) (o : Outcome) → IsNoCommand (after_flag c waiting word h o).1
flag_step c waiting word h walking.done = tt
flag_step c waiting word h (walking.waits id) = tt
flag_step c waiting word h walking.plain = plain_step c waiting word h
flag_step c waiting word h walking.refused = plain_step c waiting word h

short_step : (c : List Rule) (waiting : Waiting) (word : Text) (h : Held) (flags : Option Text) → IsNoCommand (short_or_plain c waiting word flags h).1
short_step c waiting word h None = plain_step c waiting word h
short_step c waiting word h (Some flags) = flag_step c waiting word (bundle c flags h).0 (bundle c flags h).1

long_step : (c : List Rule) (waiting : Waiting) (word : Text) (h : Held) (found : Option (Text × Option Text)) → IsNoCommand (long_or_other c waiting word found h).1
long_step c waiting word h None = short_step c waiting word h (short_of word)
long_step c waiting word h (Some p) =
    flag_step c waiting word (long_met c (arg_by_long c p.0) p.1 h).0 (long_met c (arg_by_long c p.0) p.1 h).1

other_step : (c : List Rule) (waiting : Waiting) (position : ℕ) (word : Text) (h : Held) → IsNoCommand (subcommand_or_other c None waiting position word h).1
other_step c waiting position word h = by_dashes (bytes_eq word (45 ∷ 45 ∷ []))
  where
    by_dashes : (b : Bool) → IsNoCommand (if b then (h, walking.trailing position) else long_or_other c waiting word (long_of word) h).1
    by_dashes true = tt
    by_dashes false = long_step c waiting word h (long_of word)

goes_on : (c : List Rule) (a : Option Rule) (word : Text) (w : Walk) (h : Held) → w.stopped ≡ None → (to_positional c a word w h).stopped ≡ None
goes_on c None word w h e = e
goes_on c (Some a) word w h e = refl

not_stopped : (c : List Rule) (word : Text) (w : Walk) (h : Held) (step : Step) → w.stopped ≡ None → IsNoCommand step → (after_step c word w h step).stopped ≡ None
not_stopped c word w h (walking.next waiting) e n = e
not_stopped c word w h (walking.trailing position) e n = e
not_stopped c word w h (walking.subcommand name) e n = absurd n
not_stopped c word w h walking.value e n = goes_on c (arg_by_index c w.position) word w h e

-- ---- a walk without a fault

module _ (s : Shape) (names : Names) (helps : s.disable_help_subcommand ≡ false) where
  -- a name without a fault isn't `help`
  name_is_no_help : (name : Text) (word : Text) (h : Held) → other_fault s (Some name) word h ≡ [] → name ≡ codes "help" → ⊥
  name_is_no_help name word h none is = some_nil (rw (is, helps) at none)
    where
      some_nil : other_fault (record s { disable_help_subcommand = false }) (Some (codes "help")) word h ≡ [] → ⊥
      some_nil e = cc

  by_met : (w : Walk) (word : Text) (met : Option Text) → w.stopped ≡ None → other_fault s met word w.held ≡ []
      → IsNoHelp (after_step s.rules word w (subcommand_or_other s.rules met w.waiting w.position word w.held).0
      (subcommand_or_other s.rules met w.waiting w.position word w.held).1).stopped
  by_met w word (Some name) e none = name_is_no_help name word w.held none
  by_met w word None e none =
      subst IsNoHelp (sym (not_stopped s.rules word w _ _ e (other_step s.rules w.waiting w.position word w.held))) tt

  by_trailing : (w : Walk) (word : Text) (is_trailing : Bool) → w.stopped ≡ None → word_fault s names is_trailing w.waiting word w.held ≡ []
      → IsNoHelp (after_step s.rules word w (word_met s.rules names is_trailing w.waiting w.position word w.held).0
      (word_met s.rules names is_trailing w.waiting w.position word w.held).1).stopped
  by_trailing w word true e none = subst IsNoHelp (sym (not_stopped s.rules word w w.held walking.value e tt)) tt
  by_trailing w word false e none = by_met w word (subcommand_met names w.waiting word) e none

  by_stop : (w : Walk) (word : Text) (stop : Option (Text × List Text)) → w.stopped ≡ stop → turn_fault s names w word ≡ [] → IsNoHelp stop
      → IsNoHelp (walked_from s.rules names stop w word).stopped
  by_stop w word (Some p) e none before = before
  by_stop w word None e none before = by_trailing w word w.is_trailing e (or_else_nil _ _ (rw e at none)).0

  walks : (w : Walk) (arguments : List Text) → walk_fault s names w arguments ≡ [] → IsNoHelp w.stopped → IsNoHelp (fold (walked s.rules names) w arguments).stopped
  unfolding walk_fault walked
  walks w [] none before = before
  walks w (word ∷ rest) none before =
      let both = or_else_nil (turn_fault s names w word) (walk_fault s names (walked s.rules names w word) rest) none in
      walks (walked s.rules names w word) rest both.1 (by_stop w word w.stopped refl both.0 before)

-- ---- the command that was entered

module _ (p : Shape → Bool) where
  -- the element that was found is in the list and passes the test; it also passes any test that all elements pass
  found : (q : Shape → Bool) (subs : List Shape) (s : Shape) → list_all q subs ≡ true → find p subs ≡ Some s
      → IsOneOf s.name (map (λ (x : Shape). x.name) subs) × (p s ≡ true) × (q s ≡ true)
  found q [] s all e = absurd (none_some e)
    where
      none_some : ◌≡◌ {A = Option Shape} None (Some s) → ⊥
      none_some h = cc
  found q (x ∷ subs) s all e = by_tests (p x) (q x) refl refl all e (found q subs s)
    where
      by_tests : (b d : Bool) → p x ≡ b → q x ≡ d → (d && list_all q subs) ≡ true → (if b then Some x else find p subs) ≡ Some s
          → (list_all q subs ≡ true → find p subs ≡ Some s → IsOneOf s.name (map (λ (y : Shape). y.name) subs) × (p s ≡ true) × (q s ≡ true))
          → IsOneOf s.name (map (λ (y : Shape). y.name) (x ∷ subs)) × (p s ≡ true) × (q s ≡ true)
      by_tests b false is passes all e later = absurd (false_true all)
        where
          false_true : false ≡ true → ⊥
          false_true h = cc
      by_tests true true is passes all e later =
          let same : x ≡ s = cc in
          (inl (ap (λ (y : Shape). y.name) (sym same)), subst (λ (y : Shape). p y ≡ true) same is, subst (λ (y : Shape). q y ≡ true) same passes)
      by_tests false true is passes all e later =
          let rest = later all e in
          (inr rest.0, rest.1, rest.2)

-- a command without aliases answers only to its own name
named_so : (word : Text) (s : Shape) → has_none s.aliases ≡ true → answers_to word (label_of s) ≡ true → s.name ≡ word
named_so word s none answers = (bytes_eq-Decides s.name word).0 (by_aliases s.aliases none answers)
  where
    or_false : (b : Bool) → (b || false) ≡ true → b ≡ true
    or_false true e = refl
    or_false false e = e

    by_aliases : (aliases : List Text) → has_none aliases ≡ true → answers_to word (s.name, aliases) ≡ true → bytes_eq s.name word ≡ true
    by_aliases [] none answers = or_false (bytes_eq s.name word) answers
    by_aliases (x ∷ xs) none answers = absurd (false_true none)
      where
        false_true : false ≡ true → ⊥
        false_true h = cc

without_last : (name last : List ℕ) (known : List (List ℕ)) → IsOneOf name (known ++ last ∷ []) → (name ≡ last → ⊥) → IsOneOf name known
without_last name last [] (inl e) differs = absurd (differs e)
without_last name last [] (inr none) differs = absurd none
without_last name last (x ∷ known) (inl e) differs = inl e
without_last name last (x ∷ known) (inr rest) differs = inr (without_last name last known rest differs)

first_same : (x y : Text × List Row) → Some x ≡ Some y → x.0 ≡ y.0
first_same x y e = let same : x ≡ y = cc in ap (λ (z : Text × List Row). z.0) same

-- the name of the command that is entered is one of the commands that `clap` builds, and isn't `help`
entered_name : (a : App) (stop : Option (Text × List Text)) (name : List ℕ) (rows : List Row) → list_all (λ (s : Shape). has_none s.aliases) a.subs ≡ true
    → IsNoHelp stop → entered a stop ≡ Some (name, rows) → IsOneOf name (map (λ (s : Shape). s.name) a.subs) × (name ≡ codes "help" → ⊥)
entered_name a None name rows plain before e = absurd (none_some e)
  where
    none_some : ◌≡◌ {A = Option (Text × List Row)} None (Some (name, rows)) → ⊥
    none_some h = cc
entered_name a (Some p) name rows plain before e = by_found (find (λ s. answers_to p.0 (label_of s)) a.subs) refl e
  where
    by_found : (f : Option Shape) → find (λ s. answers_to p.0 (label_of s)) a.subs ≡ f
        → option_map {U = Text × List Row} (λ s. rows_at s p.1) f ≡ Some (name, rows)
        → IsOneOf name (map (λ (s : Shape). s.name) a.subs) × (name ≡ codes "help" → ⊥)
    by_found None is e = absurd (none_some e)
      where
        none_some : ◌≡◌ {A = Option (Text × List Row)} None (Some (name, rows)) → ⊥
        none_some h = cc
    by_found (Some s) is e =
        let is_name = first_same (rows_at s p.1) (name, rows) e in
        let known = found (λ s. answers_to p.0 (label_of s)) (λ (s : Shape). has_none s.aliases) a.subs s plain is in
        let word = named_so p.0 s known.2 known.1 in
        (subst (λ (n : List ℕ). IsOneOf n (map (λ (s : Shape). s.name) a.subs)) is_name known.0, λ help. before (sym word ∙ is_name ∙ help))

pub command_is : (arguments : List (List ℕ)) (name : List ℕ) (rows : List Row) → fault_of chipbench arguments ≡ [] → subcommand_of chipbench arguments ≡ Some (name, rows)
    → IsOneOf name command_names
command_is arguments name rows none named =
    let a = built chipbench in
    let clean = (or_else_nil (walk_fault a.top (names_of a) (walk_from nothing_held) (argument_words chipbench arguments)) _ none).0 in
    let before = walks a.top (names_of a) takes_help (walk_from nothing_held) (argument_words chipbench arguments) clean tt in
    let one = entered_name a (stop_after a.top.rules (names_of a) (argument_words chipbench arguments)) name rows no_aliases before named in
    without_last name (codes "help") command_names (subst (IsOneOf name) names_built one.0) one.1
