-- Each line has one token list.
use Rattle.std.proofs.Common.{◌≡◌, ℕ, zero, suc, ◌+◌, ◌-◌, ◌<◌, ◌≤◌, ◌==◌, Bool, true, false, if◌then◌else◌, List, [], ◌∷◌, length, get_or, take, drop, refl, sym, ap, subst, arith, ◌∙◌, add-one, length-drop, inl, inr}
use Rattle.std.proofs.lemmas.Bool.{cases_eq, cases_lt, eqb-true}
use Rattle.std.proofs.Math.Seq.{drop-cons}
use Rattle.std.proofs.lemmas.List.{drop_all}
use Rattle.std.proofs.lemmas.List.Sums.{prefix_len-le-length}
use Rattle.std.proofs.lemmas.Bool.Decides.{nat_tests}
use Rattle.std.specs.Prelude.{not, ◌||◌}
use Rattle.std.specs.List.{prefix_len}
use Rattle.chip_lang.specs.declared.fault.Fault.TheVariants.{BadCharacter}
use Rattle.chip_lang.specs.declared.token.Kind.TheVariants.{Word, Sign, Bad}
use Rattle.chip_lang.specs.declared.token.Kind.{Kind}
use Rattle.chip_lang.specs.declared.token.Token.{Token}
use Rattle.chip_lang.specs.Token.{is_blank, is_digit, is_sign, is_name_start, kind_of_digits, is_name_byte, is_run_byte, token_at, text_at}
use Rattle.chip_lang.specs.computed.Tokens.{tokens_from, tokens_of}
use Rattle.chip_lang.specs.Scan.{AllBlank, IsToken, IsOver, AreTokens}
use Rattle.chip_lang.proofs.Scan.{token_step}

-- ---- the length of a token

abbrev Bounded : List ℕ → Kind × ℕ → Type 0
Bounded bytes r = (0 < r.1) × (r.1 ≤ length bytes + 1)

text_bounded : (q : ℕ) (bytes : List ℕ) → Bounded bytes (text_at q bytes)
unfolding text_at
text_bounded q bytes =
    let inside = prefix_len-le-length (λ b. not (b == q)) bytes in
    grind (arith, nat_tests)

-- the length of the first kind that fits, by the tests of the first byte
kind_bounded : (t1 t2 t3 t4 t5 t6 t7 : Bool) (bytes : List ℕ) (a b c d e h : Kind) (m n : ℕ) (f : Kind × ℕ) (g : Kind) → m ≤ length bytes → n ≤ length bytes → Bounded bytes f →
    Bounded bytes (if t1 then (a, m + 1) else (if t2 then (b, m + 1) else (if t3 then (c, m + 1) else (if t4 then (d, m + 1) else
    (if t5 then (e, n + 1) else (if t6 then f else (if t7 then (g, 1) else (h, 1))))))))
kind_bounded false false false false false true t7 bytes a b c d e h m n f g p q r = r
kind_bounded false false false false false false true bytes a b c d e h m n f g p q r = (omega arith, omega arith)
kind_bounded t1 t2 t3 t4 t5 t6 t7 bytes a b c d e h m n f g p q r = (omega arith, omega arith)

token_bounded : (b : ℕ) (bytes : List ℕ) → Bounded bytes (token_at b bytes)
unfolding token_at
token_bounded b bytes =
    let name = prefix_len is_name_byte bytes in
    let wide = prefix_len is_run_byte bytes in
    kind_bounded (is_name_start b) (is_digit b) (b == 35) (b == 64) (b == 36) (b == 39 || b == 34) (is_sign b) bytes
    Word (kind_of_digits 10 (b ∷ take name bytes)) (kind_of_digits 16 (take name bytes)) (kind_of_digits 8 (take name bytes)) (kind_of_digits 2 (take wide bytes))
    (Bad BadCharacter) name wide (text_at b bytes) (Sign b) (prefix_len-le-length is_name_byte bytes) (prefix_len-le-length is_run_byte bytes) (text_bounded b bytes)

-- ---- blanks, comments and the end

at_place : (line : List ℕ) (place : ℕ) → place < length line → drop place line ≡ get_or line place 0 ∷ drop (place + 1) line
at_place line place h = rw add-one (drop-cons line place 0 h)

blank_front : (place b : ℕ) (bytes : List ℕ) → is_blank b ≡ true → tokens_from place 0 (b ∷ bytes) ≡ tokens_from (place + 1) 0 bytes
blank_front place b bytes h = rw h refl

comment_front : (place b : ℕ) (bytes : List ℕ) → b ≡ 59 → tokens_from place 0 (b ∷ bytes) ≡ []
comment_front place b bytes h = rw h refl

blanks : (line : List ℕ) (gap place : ℕ) → place + gap ≤ length line → AllBlank line place (place + gap) →
    tokens_from place 0 (drop place line) ≡ tokens_from (place + gap) 0 (drop (place + gap) line)
blanks line zero place h all = let e : place ≡ place + 0 = omega arith in ap (λ n. tokens_from n 0 (drop n line)) e
blanks line (suc gap) place h all =
    let e : place + 1 + gap ≡ place + suc gap = omega arith in
    ap (tokens_from place 0) (at_place line place (omega arith))
    ∙ blank_front place (get_or line place 0) (drop (place + 1) line) (all place (omega arith) (omega arith))
    ∙ blanks line gap (place + 1) (omega arith) (λ k p q. all k (omega arith) (omega arith))
    ∙ ap (λ n. tokens_from n 0 (drop n line)) e

blanks_to : (line : List ℕ) (place to : ℕ) → place ≤ to → to ≤ length line → AllBlank line place to →
    tokens_from place 0 (drop place line) ≡ tokens_from to 0 (drop to line)
blanks_to line place to p q all =
    let e : place + (to - place) ≡ to = omega arith in
    blanks line (to - place) place (omega arith) (λ k a b. all k a (omega arith)) ∙ ap (λ n. tokens_from n 0 (drop n line)) e

end_of : (line bytes : List ℕ) (stop : ℕ) → bytes ≡ drop stop line → (stop < length line → get_or line stop 0 ≡ 59) → tokens_from stop 0 (drop stop line) ≡ []
end_of line [] stop e h = ap (tokens_from stop 0) (sym e)
end_of line (b ∷ bytes) stop e h =
    let within : stop < length line = omega (arith, length-drop stop line, ap length e) in
    ap (tokens_from stop 0) (at_place line stop within) ∙ comment_front stop (get_or line stop 0) (drop (stop + 1) line) (h within)

over : (line : List ℕ) (place : ℕ) (o : IsOver line place) → tokens_from place 0 (drop place line) ≡ []
over line place o = blanks_to line place o.stop o.after o.inside o.blank ∙ end_of line (drop o.stop line) o.stop refl o.comment

-- ---- no other list

only_from : (ts : List Token) (line : List ℕ) (place : ℕ) → place ≤ length line → AreTokens line place ts → ts ≡ tokens_from place 0 (drop place line)
only_from [] line place h a = sym (over line place a)
only_from (t ∷ ts) line place h a =
    let r = token_at (get_or line t.start 0) (drop (t.start + 1) line) in
    let bounded = token_bounded (get_or line t.start 0) (drop (t.start + 1) line) in
    let step = token_step line t.start r a.2.inside refl a.2.no_blank a.2.no_comment bounded.0 in
    let inside : t.start < length line = a.2.inside in
    let end : t.end ≡ t.start + r.1 = a.2.end in
    let within : t.end ≤ length line = omega (arith, length-drop (t.start + 1) line, bounded.1) in
    let here : t ≡ record { kind = r.0; start = t.start; end = t.start + r.1 } =
    ap (λ k. record { kind = k; start = t.start; end = t.end }) a.2.kind ∙ ap (λ e. record { kind = r.0; start = t.start; end = e }) end in
    ap (λ us. t ∷ us) (only_from ts line t.end within a.3 ∙ ap (λ n. tokens_from n 0 (drop n line)) end)
    ∙ ap (λ u. u ∷ tokens_from (t.start + r.1) 0 (drop (t.start + r.1) line)) here
    ∙ sym (blanks_to line place t.start a.0 (omega arith) a.1 ∙ step)

pub no_other_tokens : (line : List ℕ) (ts : List Token) → AreTokens line 0 ts → ts ≡ tokens_of line
no_other_tokens line ts a = only_from ts line 0 (omega arith) a

-- ---- the list of tokens

blank_before : (line : List ℕ) (place to : ℕ) → is_blank (get_or line place 0) ≡ true → AllBlank line (place + 1) to → AllBlank line place to
blank_before line place to h all k p q =
    elim (cases_eq k place) [ inl e ↦ ap (λ n. is_blank (get_or line n 0)) e ∙ h | inr ne ↦ all k (omega arith) q ]

widen : (line : List ℕ) (place : ℕ) (ts : List Token) → is_blank (get_or line place 0) ≡ true → AreTokens line (place + 1) ts → AreTokens line place ts
widen line place [] h o = record {
  stop = o.stop;
  after = omega (arith, o.after);
  inside = o.inside;
  blank = blank_before line place o.stop h o.blank;
  comment = o.comment;
}
widen line place (t ∷ ts) h a = (omega (arith, a.0), blank_before line place t.start h a.1, a.2, a.3)

over_at : (line : List ℕ) (place : ℕ) → place ≤ length line → (place < length line → get_or line place 0 ≡ 59) → IsOver line place
over_at line place p h = record { stop = place; after = omega arith; inside = p; blank = λ k a b. absurd (omega arith); comment = h }

-- the tokens from each later place on are a token list
abbrev Again : ℕ → List ℕ → Type 0
Again n line = (place : ℕ) → place ≤ length line → length line ≤ place + n → AreTokens line place (tokens_from place 0 (drop place line))

are_solid : (n : ℕ) (line : List ℕ) (place : ℕ) → Again n line → place < length line → length line ≤ place + suc n → is_blank (get_or line place 0) ≡ false →
    (b : Bool) → (get_or line place 0 == 59) ≡ b → AreTokens line place (tokens_from place 0 (get_or line place 0 ∷ drop (place + 1) line))
are_solid n line place again h q e true c =
    subst (AreTokens line place) (sym (comment_front place (get_or line place 0) (drop (place + 1) line) (eqb-true (get_or line place 0) 59 c)))
    (over_at line place (omega arith) (λ g. eqb-true (get_or line place 0) 59 c))
are_solid n line place again h q e false c =
    let r = token_at (get_or line place 0) (drop (place + 1) line) in
    let bounded = token_bounded (get_or line place 0) (drop (place + 1) line) in
    let within : place + r.1 ≤ length line = omega (arith, length-drop (place + 1) line, bounded.1) in
    let step = token_step line place r h refl e c bounded.0 in
    subst (AreTokens line place) (sym (ap (tokens_from place 0) (sym (at_place line place h)) ∙ step)) (
      omega arith,
      λ k a b. absurd (omega arith),
      record { inside = h; no_blank = e; no_comment = c; kind = refl; end = refl },
      again (place + r.1) within (omega (arith, bounded.0)),
    )

are_at : (n : ℕ) (line : List ℕ) (place : ℕ) → Again n line → place < length line → length line ≤ place + suc n → (b : Bool) → is_blank (get_or line place 0) ≡ b →
    AreTokens line place (tokens_from place 0 (get_or line place 0 ∷ drop (place + 1) line))
are_at n line place again h q true e =
    subst (AreTokens line place) (sym (blank_front place (get_or line place 0) (drop (place + 1) line) e))
    (widen line place _ e (again (place + 1) (omega arith) (omega arith)))
are_at n line place again h q false e = are_solid n line place again h q e (get_or line place 0 == 59) refl

are_from : (n : ℕ) (line : List ℕ) → Again n line
are_from zero line place p q =
    let nothing : drop place line ≡ [] = drop_all place line (omega arith) in
    subst (λ l. AreTokens line place (tokens_from place 0 l)) (sym nothing) (over_at line place p (λ h. absurd (omega arith)))
are_from (suc n) line place p q =
    elim (cases_lt place (length line)) [
      | inl h ↦ subst (λ l. AreTokens line place (tokens_from place 0 l)) (sym (at_place line place h)) (are_at n line place (are_from n line) h q (is_blank (get_or line place 0)) refl)
      | inr h ↦ subst (λ l. AreTokens line place (tokens_from place 0 l)) (sym (drop_all place line h)) (over_at line place p (λ g. absurd (omega arith)))
    ]

pub these_tokens : (line : List ℕ) → AreTokens line 0 (tokens_of line)
these_tokens line = are_from (length line) line 0 (omega arith) (omega arith)

pub ruleset token_laws = (these_tokens, no_other_tokens)

pub placed : (line : List ℕ) (ts : List Token) → ts ≡ tokens_of line → AreTokens line 0 ts
placed line ts e = subst (AreTokens line 0) (sym e) (these_tokens line)

-- ---- the places of tokens

-- a token lies in its line
pub record LiesIn (line : List ℕ) (t : Token) : Type 0 where
  pub rises : t.start < t.end
  pub inside : t.end ≤ length line

pub lies_in : (line : List ℕ) (t : Token) → IsToken line t → LiesIn line t
lies_in line t is =
    let bounded = token_bounded (get_or line t.start 0) (drop (t.start + 1) line) in
    record {
      rises = omega (arith, is.end, bounded.0);
      inside = omega (arith, is.inside, is.end, bounded.1, length-drop (t.start + 1) line);
    }

pub each_lies_in : (line : List ℕ) (place : ℕ) (ts : List Token) (i : ℕ) (d : Token) → AreTokens line place ts → i < length ts → LiesIn line (get_or ts i d)
each_lies_in line place [] i d a h = absurd (omega arith)
each_lies_in line place (t ∷ ts) zero d a h = lies_in line t a.2
each_lies_in line place (t ∷ ts) (suc i) d a h = each_lies_in line t.end ts i d a.3 (omega arith)
