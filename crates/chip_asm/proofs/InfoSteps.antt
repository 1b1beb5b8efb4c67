-- The facts stored about lines stay right when names are added.
use Rattle.std.proofs.Common.{◌≡◌, ℕ, ◌+◌, ◌<◌, ◌≤◌, All, List, [], ◌∷◌, ◌++◌, ◌∙◌, ap, sym, subst, refl, arith, get_or, length, length-append, set, slice_get, take, Option, Some, None, ◌⊎◌, inl, inr}
use Rattle.std.specs.Option.{option_map}
use Rattle.std.proofs.Math.Seq.{map-set_same}
use Rattle.std.proofs.lemmas.Bool.{cases_eq}
use Rattle.std.proofs.lemmas.Grind.{get_or-set_at}
use Rattle.std.proofs.lemmas.List.{get_or-set_other, length-map, map-append, take_all, take_more}
use Rattle.std.proofs.lemmas.List.Elements.{All-head, All-nil, All-push, All-tail}
use Rattle.std.proofs.lemmas.Option.{slice_get-get_or, slice_get-map, slice_get_within}
use Rattle.chip_lang.specs.Line.{Reading}
use Rattle.chip_lang.specs.SeenLine.{seen_line}
use Rattle.chip_asm.specs.declared.line_info.LineInfo.{LineInfo}
use Rattle.chip_asm.specs.declared.line_info.Numbered.{Numbered}
use Rattle.chip_symbols.specs.declared.table.NameId.{NameId}
use Rattle.chip_symbols.specs.Names.{Name}
use Rattle.chip_asm.specs.inner.Infos.{AreInfos, AreInfosOf, IsInfo, IsNumberOf, numbers_of}
use Rattle.chip_asm.specs.inner.KeptLine.{KeptLine}
use Rattle.chip_asm.specs.inner.Records.{reading_in, readings_in, texts_in}
use Rattle.chip_symbols.specs.Tables.{AreNumbers, Extends, IsNumber, key_at, names_at}
use Rattle.chip_asm.proofs.PlacesAgree.{one-side}

pub number-extends : (old new : List Name) (id : NameId) (name : Name) → Extends old new → IsNumber old id name → IsNumber new id name
number-extends old new id name e n = record {
  within = omega (arith, e.longer, n.within);
  named = e.same id.number n.within ∙ n.named;
}

pub number-of-extends : (old new : List Name) (id : Option NameId) (name : Option Name) → Extends old new → IsNumberOf old id name → IsNumberOf new id name
number-of-extends old new None name e n = n
number-of-extends old new (Some id) None e n = n
number-of-extends old new (Some id) (Some name) e n = number-extends old new id name e n

pub extends-through : (a b c : List Name) → Extends a b → Extends b c → Extends a c
extends-through a b c e f = record {
  longer = omega (arith, e.longer, f.longer);
  same = λ number h. f.same number (omega (arith, e.longer, h)) ∙ e.same number h;
}

names-same : (old new : List Name) (numbers : List NameId) → Extends old new → All (λ id. id.number < length old) numbers → names_at new numbers ≡ names_at old numbers
names-same old new [] e within = refl
names-same old new (id ∷ ids) e within =
    rw (e.same id.number (All-head (λ (i : NameId). i.number < length old) id ids within), names-same old new ids e (All-tail (λ (i : NameId). i.number < length old) id ids within)) refl

pub numbers-extend : (old new : List Name) (numbers : List NameId) (names : List Name) → Extends old new → AreNumbers old numbers names → AreNumbers new numbers names
numbers-extend old new numbers names e n = record {
  within = λ k d h. let low = n.within k d h in omega (arith, low, e.longer);
  named = names-same old new numbers e n.within ∙ n.named;
}

-- one more number
pub numbers-push : (old new : List Name) (numbers : List NameId) (names : List Name) (id : NameId) (name : Name) → Extends old new → AreNumbers old numbers names → IsNumber new id name
    → AreNumbers new (numbers ++ id ∷ []) (names ++ name ∷ [])
numbers-push old new numbers names id name e n one =
    let more : AreNumbers new numbers names = numbers-extend old new numbers names e n in record {
      within = All-push (λ (i : NameId). i.number < length new) numbers id more.within one.within;
      named = map-append (λ (i : NameId). key_at new i.number) numbers (id ∷ []) ∙ ap (λ ns. ns ++ key_at new id.number ∷ []) more.named ∙ ap (λ n. names ++ n ∷ []) one.named;
    }

pub no-numbers : (keys : List Name) → AreNumbers keys [] []
no-numbers keys = record { within = All-nil (λ (i : NameId). i.number < length keys); named = refl }

pub info-extends : (old new : List Name) (info : LineInfo) (several : List NameId) (line : Reading) → Extends old new → IsInfo old info several line → IsInfo new info several line
info-extends old new info several line e i = record {
  space = i.space;
  coded = i.coded;
  steady = i.steady;
  defines = number-of-extends old new info.defines _ e i.defines;
  uses = numbers-extend old new (numbers_of info.uses several) _ e i.uses;
}

pub infos-extend : (old new : List Name) (lines : List KeptLine) → Extends old new → AreInfos old lines → AreInfos new lines
infos-extend old new lines e all k d h = info-extends old new _ _ _ e (all k d h)

pub infos-push : (old new : List Name) (lines : List KeptLine) (line : KeptLine) → Extends old new → AreInfos old lines → IsInfo new line.info line.several (reading_in line) → AreInfos new (lines ++ line ∷ [])
infos-push old new lines line e all last = All-push (λ (kept : KeptLine). IsInfo new kept.info kept.several (reading_in kept)) lines line (infos-extend old new lines e all) last

-- one more line
pub infos-of-more : (old new : List Name) (infos : List Numbered) (made : Numbered) (lines : List KeptLine) (k : ℕ) (line : KeptLine) → Extends old new
    → AreInfosOf old infos (readings_in (take k lines)) → k < length lines → line ≡ get_or lines k line → IsInfo new made.info made.several.items (reading_in line)
    → AreInfosOf new (infos ++ made ∷ []) (readings_in (take (k + 1) lines))
infos-of-more old new infos made lines k line e are inside at is = (long, each)
  where
    front : List Reading
    front = readings_in (take k lines)

    split : readings_in (take (k + 1) lines) ≡ front ++ reading_in line ∷ []
    split = ap readings_in (take_more lines k line inside) ∙ map-append reading_in (take k lines) (get_or lines k line ∷ []) ∙ ap (λ (l : KeptLine). front ++ reading_in l ∷ []) (sym at)

    long : length (infos ++ made ∷ []) ≡ length (readings_in (take (k + 1) lines))
    long = length-append infos (made ∷ []) ∙ ap (λ n. n + 1) are.0 ∙ sym (ap length split ∙ length-append front (reading_in line ∷ []))

    each : (place : ℕ) (i : Numbered) (l : Reading) → slice_get (infos ++ made ∷ []) place ≡ Some i → slice_get (readings_in (take (k + 1) lines)) place ≡ Some l → IsInfo new i.info i.several.items l
    each place i l there read = by (one-side infos made place i there) (one-side front (reading_in line) place l (ap (λ ls. slice_get ls place) (sym split) ∙ read))
      where
        by : (slice_get infos place ≡ Some i) ⊎ ((place ≡ length infos) × (i ≡ made)) → (slice_get front place ≡ Some l) ⊎ ((place ≡ length front) × (l ≡ reading_in line)) → IsInfo new i.info i.several.items l
        by (inl a) (inl b) = info-extends old new i.info i.several.items l e (are.1 place i l a b)
        by (inr a) (inr b) = subst (λ (x : Numbered). IsInfo new x.info x.several.items l) (sym a.1) (subst (λ (x : Reading). IsInfo new made.info made.several.items x) (sym b.1) is)
        by (inl a) (inr b) = absurd (let low = slice_get_within infos place i a in omega (arith, low, b.0, are.0))
        by (inr a) (inl b) = absurd (let low = slice_get_within front place l b in omega (arith, low, a.0, are.0))

pub infos-of-all : (keys : List Name) (infos : List Numbered) (lines : List KeptLine) (k : ℕ) → length lines ≤ k → AreInfosOf keys infos (readings_in (take k lines)) → AreInfosOf keys infos (readings_in lines)
infos-of-all keys infos lines k past are = subst (λ (ls : List KeptLine). AreInfosOf keys infos (readings_in ls)) (take_all k lines past) are

-- the first lines have their new numbers, and the remaining lines don't have theirs yet
pub record ArePut (lines before : List KeptLine) (infos was : List Numbered) (k : ℕ) : Type 0 where
  pub texts : texts_in lines ≡ texts_in before
  pub readings : readings_in lines ≡ readings_in before
  pub put : (keys : List Name) → AreInfosOf keys was (readings_in before) → (i : ℕ) (d : KeptLine) → i < k
      → IsInfo keys (get_or lines i d).info (get_or lines i d).several (reading_in (get_or lines i d))
  pub waiting : (i : ℕ) (d : Numbered) → k ≤ i → get_or infos i d ≡ get_or was i d

pub put-more : (lines before : List KeptLine) (infos was : List Numbered) (k : ℕ) (d made : KeptLine) (old later : Numbered) → ArePut lines before infos was k → k < length lines
    → old ≡ get_or infos k old → made.text ≡ (get_or lines k d).text → made.line ≡ (get_or lines k d).line
    → ((keys : List Name) → IsInfo keys old.info old.several.items (reading_in (get_or lines k d)) → IsInfo keys made.info made.several (reading_in made))
    → ArePut (set lines k made) before (set infos k later) was (k + 1)
put-more lines before infos was k d made old later a inside old_at text line is =
    record {
      texts = map-set_same (λ (l : KeptLine). l.text) lines k made d text ∙ a.texts;
      readings = map-set_same reading_in lines k made d (ap seen_line line) ∙ a.readings;
      put = λ keys are i e lt. elim (cases_eq i k) [
        | inl here ↦ subst (λ (l : KeptLine). IsInfo keys l.info l.several (reading_in l)) (sym (get_or-set_at lines k i made e here inside)) (is keys (there keys are))
        | inr apart ↦ subst (λ (l : KeptLine). IsInfo keys l.info l.several (reading_in l)) (sym (get_or-set_other lines k i made e apart)) (a.put keys are i e (omega (arith, apart, lt)))
      ];
      waiting = λ i e past. get_or-set_other infos k i later e (λ same. omega (arith, same, past)) ∙ a.waiting i e (omega (arith, past));
    }
  where
    there : (keys : List Name) → AreInfosOf keys was (readings_in before) → IsInfo keys old.info old.several.items (reading_in (get_or lines k d))
    there keys are =
        let long : length was ≡ length lines = are.0 ∙ ap length (sym a.readings) ∙ length-map lines reading_in in
        let at : slice_get was k ≡ Some old = slice_get-get_or was k old (omega (arith, long, inside)) ∙ ap Some (sym (a.waiting k old (omega arith)) ∙ sym old_at) in
        let read : slice_get (readings_in before) k ≡ Some (reading_in (get_or lines k d))
        = ap (λ ls. slice_get ls k) (sym a.readings) ∙ slice_get-map reading_in lines k ∙ ap (option_map reading_in) (slice_get-get_or lines k d inside) in
        are.1 k old (reading_in (get_or lines k d)) at read

pub put-all : (keys : List Name) (lines before : List KeptLine) (infos was : List Numbered) (k : ℕ) → ArePut lines before infos was k → length lines ≤ k → AreInfosOf keys was (readings_in before) → AreInfos keys lines
put-all keys lines before infos was k a past are i d lt = a.put keys are i d (omega (arith, lt, past))
