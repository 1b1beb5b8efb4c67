-- The contents of a writer after two writes.
use Rattle.std.proofs.Common.{◌≡◌, ℕ, List, ◌++◌, take, drop, Option, Some, None, sym, ◌∙◌, ap, append_assoc}
use Rattle.std.specs.Io.KnownBytes.{Keeps, Appends}
use Rattle.std.proofs.KnownBytes.{Appends-trans}
use Rattle.std.proofs.lemmas.List.{take-append-drop}

-- if the contents are known before a write, they are known after it
pub appends_known : (a b : Option (List ℕ)) (before x : List ℕ) → a ≡ Some before → Appends a b x → b ≡ Some (before ++ x)
appends_known None b before x e p = cc
appends_known (Some xs) None before x e p = absurd p
appends_known (Some xs) (Some ys) before x e p = ap Some (p ∙ ap (λ l. l ++ x) (some_same e))
  where
    some_same : {a b : List ℕ} → Some a ≡ Some b → a ≡ b
    some_same h = cc

pub keeps_known : (a b : Option (List ℕ)) (before : List ℕ) → a ≡ Some before → Keeps a b → b ≡ Some before
keeps_known None b before e p = cc
keeps_known (Some xs) None before e p = absurd p
keeps_known (Some xs) (Some ys) before e p = ap Some p ∙ e

-- a prefix of the bytes has been written, and the rest is left
pub record Written (held holds : Option (List ℕ)) (bytes rest : List ℕ) : Type 0 where
  pub front : List ℕ
  pub split : bytes ≡ front ++ rest
  pub appended : Appends held holds front

pub written_more : (held holds next : Option (List ℕ)) (bytes rest : List ℕ) (n : ℕ) → Written held holds bytes rest → Appends holds next (take n rest) → Written held next bytes (drop n rest)
written_more held holds next bytes rest n w p = record {
  front = w.front ++ take n rest;
  split = w.split ∙ ap (λ l. w.front ++ l) (sym (take-append-drop n rest)) ∙ sym (append_assoc w.front (take n rest) (drop n rest));
  appended = Appends-trans held holds next w.front (take n rest) w.appended p;
}
