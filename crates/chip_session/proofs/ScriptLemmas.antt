-- The transcript of a script in two parts, and the answer to a line that is cut because it is too
-- long.
use Rattle.std.proofs.Common.{◌≡◌, ◌⊎◌, ℕ, ◌+◌, ◌-◌, ◌<◌, ◌≤◌, ◌==◌, ◌&&◌, Bool, true, false, cond, List, [], ◌∷◌, ◌++◌, length, take, refl, sym, ◌∙◌, ap, append_assoc, arith, None, Ok, Err, Result, IsOkAnd, inl, inr, ⊎_elim}
use Rattle.std.specs.Result.{OnErr}
use Rattle.std.specs.Str.Lines.{strip_carriage_return}
use Rattle.std.proofs.lemmas.List.{append-nil, take_all, length-take}
use Rattle.std.proofs.lemmas.Bool.{cases_lt, cond_below, cond_above, ne_eqb}
use Rattle.chip_session.specs.Session.{Edit, Session, delete_event, delete_line, insert_event, insert_line, memory_refusal, replace_event, replace_line}
use Rattle.chip_session.specs.Refusals.{is_for_memory}
use Rattle.chip_session.specs.declared.command.CommandFault.{CommandFault}
use Rattle.chip_session.specs.declared.refusal.Refusal.{Refusal}
use Rattle.std.specs.List.{list_all, before_first, after_first}
use Rattle.chip_session.specs.declared.limits.TheConstants.{COMMAND_BYTES}
use Rattle.chip_session.specs.declared.server.TheConstants.{KEPT_LEN}
use Rattle.chip_session.specs.Commands.{blank, is_space, skip_spaces, worded, Command, command_of}
use Rattle.chip_session.specs.Transcript.{ask_reply, reply, after, refusal, refusal_of, transcript_of, session_after, command_reply, command_after, command_refusal}
use Rattle.chip_session.specs.declared.command.CommandFault.TheVariants.{TooLong}

pub transcript-append : (s : Session) (xs ys : List (List ℕ)) → transcript_of s (xs ++ ys) ≡ transcript_of s xs ++ transcript_of (session_after s xs) ys
transcript-append s [] ys = refl
transcript-append s (x ∷ xs) ys = ap (λ t. reply s x ++ t) (transcript-append (after s x) xs ys) ∙ sym (append_assoc (reply s x) (transcript_of (after s x) xs) (transcript_of (session_after (after s x) xs) ys))

pub session_after-append : (s : Session) (xs ys : List (List ℕ)) → session_after s (xs ++ ys) ≡ session_after (session_after s xs) ys
session_after-append s [] ys = refl
session_after-append s (x ∷ xs) ys = session_after-append (after s x) xs ys

pub too_long : (line : List ℕ) → COMMAND_BYTES < length line → command_of line ≡ Err TooLong
unfolding command_of
too_long line h = sym (cond_below COMMAND_BYTES (length line) (Err TooLong) _ h)

reply_long : (s : Session) (a b : List ℕ) → COMMAND_BYTES < length a → COMMAND_BYTES < length b → reply s a ≡ reply s b
unfolding reply
reply_long s a b h k = ap (command_reply s) (too_long a h ∙ sym (too_long b k))

after_long : (s : Session) (a b : List ℕ) → COMMAND_BYTES < length a → COMMAND_BYTES < length b → after s a ≡ after s b
unfolding after
after_long s a b h k = ap (command_after s) (too_long a h ∙ sym (too_long b k))

strip_length_by : (t : Bool) (l : List ℕ) → length l ≤ length (cond t (take (length l - 1) l) l) + 1
strip_length_by true l = simp length-take (omega arith)
strip_length_by false l = omega arith

strip_length : (l : List ℕ) → length l ≤ length (strip_carriage_return l) + 1
strip_length l = strip_length_by _ l

-- the kept bytes of a line get the same answer as the whole line
pub reply_kept : (s : Session) (line : List ℕ) → reply s (take KEPT_LEN line) ≡ reply s line
reply_kept s line = ⊎_elim (λ (long : KEPT_LEN < length line). reply_long s _ _ (rw length-take (omega arith)) (omega arith)) (λ (short : length line ≤ KEPT_LEN). ap (reply s) (take_all KEPT_LEN line short)) (cases_lt KEPT_LEN (length line))

long_kept : (line : List ℕ) → KEPT_LEN < length line → COMMAND_BYTES < length (strip_carriage_return (take KEPT_LEN line))
long_kept line long = omega (arith, strip_length (take KEPT_LEN line), length-take KEPT_LEN line)

pub reply_stripped : (s : Session) (line : List ℕ) → reply s (strip_carriage_return (take KEPT_LEN line)) ≡ reply s (strip_carriage_return line)
reply_stripped s line = ⊎_elim
    (λ (long : KEPT_LEN < length line). reply_long s _ _ (long_kept line long) (omega (arith, strip_length line)))
    (λ (short : length line ≤ KEPT_LEN). ap (λ l. reply s (strip_carriage_return l)) (take_all KEPT_LEN line short)) (cases_lt KEPT_LEN (length line))

pub after_stripped : (s : Session) (line : List ℕ) → after s (strip_carriage_return (take KEPT_LEN line)) ≡ after s (strip_carriage_return line)
after_stripped s line = ⊎_elim
    (λ (long : KEPT_LEN < length line). after_long s _ _ (long_kept line long) (omega (arith, strip_length line)))
    (λ (short : length line ≤ KEPT_LEN). ap (λ l. after s (strip_carriage_return l)) (take_all KEPT_LEN line short)) (cases_lt KEPT_LEN (length line))

pub transcript_push : (s : Session) (xs : List (List ℕ)) (x : List ℕ) → transcript_of s (xs ++ x ∷ []) ≡ transcript_of s xs ++ reply (session_after s xs) x
transcript_push s xs x = transcript-append s xs (x ∷ []) ∙ ap (λ t. transcript_of s xs ++ t) (append-nil (reply (session_after s xs) x))

pub session_after_push : (s : Session) (xs : List (List ℕ)) (x : List ℕ) → session_after s (xs ++ x ∷ []) ≡ after (session_after s xs) x
session_after_push s xs x = session_after-append s xs (x ∷ [])

pub reply_is : (s : Session) (line : List ℕ) (read : Result Command CommandFault) → command_of line ≡ read → reply s line ≡ command_reply s read
unfolding reply
reply_is s line read h = ap (command_reply s) h

pub after_is : (s : Session) (line : List ℕ) (read : Result Command CommandFault) → command_of line ≡ read → after s line ≡ command_after s read
unfolding after
after_is s line read h = ap (command_after s) h

pub refusal_is : (s : Session) (line : List ℕ) (read : Result Command CommandFault) → command_of line ≡ read → refusal s line ≡ command_refusal s read
unfolding refusal
refusal_is s line read h = ap (command_refusal s) h

-- a refusal is the one in the definition, unless memory ran out
pub no_memory : {P Q X : Type 0} {e m : X} → P ⊎ ((e ≡ m) × Q) → (e ≡ m → ⊥) → P
no_memory (inl p) h = p
no_memory (inr q) h = absurd (h q.0)

-- the refusal of an edit is the one in the definition, unless memory ran out; the hypothesis also
-- states that the edit may need memory
pub not_for_memory : {P Q R X : Type 0} {e m : X} → P ⊎ ((e ≡ m) × Q × R) → (e ≡ m → ⊥) → P
not_for_memory (inl p) h = p
not_for_memory (inr q) h = absurd (h q.0)

-- `is_for_memory` is true for the refusal of an edit that runs out of memory, and for no other refusal
pub for_memory : (c : Edit) → is_for_memory (memory_refusal c) ≡ true
for_memory (insert_line number text) = refl
for_memory (replace_line number text) = refl
for_memory (delete_line number) = refl
for_memory (insert_event step key down) = refl
for_memory (replace_event step key down) = refl
for_memory (delete_event step key) = refl

pub not_memory : (e m : Refusal) → is_for_memory m ≡ true → is_for_memory e ≡ false → e ≡ m → ⊥
not_memory e m is other same = let never : true ≡ false = sym is ∙ ap is_for_memory (sym same) ∙ other in cc

-- a proposition that holds unconditionally also holds if there is an error
pub on_err : {A E P : Type 0} (r : Result A E) → P → OnErr r P
on_err (Ok x) h = tt
on_err (Err e) h = h

-- a question that was answered
pub ask_told : (r : Result (List ℕ) Refusal) (old new : List ℕ) → old ≡ [] → IsOkAnd r (λ bytes. new ≡ old ++ bytes) → new ≡ ask_reply r
ask_told (Ok bytes) old new e h = h ∙ ap (λ l. l ++ bytes) e
ask_told (Err why) old new e h = absurd h

pub ask_not_refused : (P : List ℕ → Type 0) (r : Result (List ℕ) Refusal) → IsOkAnd r P → refusal_of r ≡ None
ask_not_refused P (Ok bytes) h = refl
ask_not_refused P (Err why) h = absurd h

-- a text contains only spaces if nothing is left after its first spaces
pub blank_skipped : (text : List ℕ) → (length (skip_spaces text) == 0) ≡ list_all is_space text
blank_skipped [] = refl
blank_skipped (byte ∷ text) = by (is_space byte) (blank_skipped text)
  where
    by : (space : Bool) → (length (skip_spaces text) == 0) ≡ list_all is_space text →
        (length (cond space (skip_spaces text) (byte ∷ text)) == 0) ≡ (space && list_all is_space text)
    by true others = others
    by false others = ne_eqb (length (byte ∷ text)) 0 (λ e. omega arith)

pub read_blank : (line : List ℕ) → length line ≤ COMMAND_BYTES → list_all is_space line ≡ true → command_of line ≡ Ok blank
unfolding command_of
read_blank line short e = sym (cond_above COMMAND_BYTES (length line) (Err TooLong) _ (Ok blank) short (sym (ap (λ t. cond t (Ok blank) (worded (before_first is_space line) (skip_spaces (after_first is_space line)))) e)))

pub read_named : (line : List ℕ) → length line ≤ COMMAND_BYTES → list_all is_space line ≡ false → command_of line ≡ worded (before_first is_space line) (skip_spaces (after_first is_space line))
unfolding command_of
read_named line short e = sym (cond_above COMMAND_BYTES (length line) (Err TooLong) _ _ short (sym (ap (λ t. cond t (Ok blank) (worded (before_first is_space line) (skip_spaces (after_first is_space line)))) e)))
