-- Steps of a state with a different value of the delay timer, and steps in which the timers tick.
use Rattle.std.proofs.Common.{◌≡◌, ℕ, ◌+◌, ◌-◌, ◌*◌, ◌%◌, ◌<◌, ◌≤◌, ◌==◌, ◌&&◌, Bool, true, false, not, List, length, Option, Some, None, Result, Ok, Err, nat_le, nat_lt, find, is_some, refl, ap, sym, subst, ◌∙◌, take, drop, if◌then◌else◌, arith}
use Rattle.std.proofs.lemmas.Bool.{eqb-true}
use Rattle.std.specs.List.{range_with_len}
use Rattle.std.specs.FinSet as set
use Rattle.chip_lang.specs.Decoding.{decode_of}
use Rattle.chip_lang.specs.declared.instr.Instr.{Instr}
use Rattle.chip_lang.specs.declared.instr.Instr.TheVariants as row
use Rattle.chip_machine.specs.declared.limits.TheConstants.{LAST_WORD}
use Rattle.chip_machine.specs.declared.stop.Stop.{Stop}
use Rattle.chip_machine.specs.declared.stop.Stop.TheVariants as cause
use Rattle.chip_machine.specs.Forgotten.{AreKept, IsForgottenAfter, IsUnneeded, is_in_row, loaded, next_instr, stored as written}
use Rattle.chip_machine.specs.Relevant.{Alike, others}
use Rattle.chip_machine.specs.Scroll.{scrolled_down, scrolled_right, scrolled_left}
use Rattle.chip_machine.specs.Sprite.{sprite_bytes}
use Rattle.chip_machine.specs.State.{Core, State, overwrite}
use Rattle.chip_machine.specs.Step.{Effect, Stops, Changes, Keyed, Loads, Stores, bit_of, call, draws_nothing, effect, effect_at, effect_of_word, has_wide_sixteen, is_key_down, is_past, load_flags, next, perform, reg, resized, return, scrolled_by, settle, step_of, store_flags, super_only, take_key, with_flag, with_index, with_lit, with_reg, with_size, with_sprite, word_at}
use Rattle.chip_explore.specs.declared.setting.Setting.{Setting}
use Rattle.chip_explore.specs.inner.Delays.{bound_after, delay_register, read_as, register_read, timed_register, with_delay}

-- ---- a step that doesn't read the delay timer

-- a core is like another one, except for a delay timer that is at most the other one's
abbrev Slower : Core → Core → Type 0
Slower a b = (delay : ℕ) × (delay ≤ a.delay) × (b ≡ (record a { delay = delay }))

abbrev Slow : Effect → Effect → Type 0
Slow (Stops a) (Stops b) = a ≡ b
Slow (Changes a) (Changes b) = Slower a b
Slow (Keyed f) (Keyed g) = (keys : ℕ) → Slower (f keys) (g keys)
Slow (Loads m f) (Loads n g) = (m ≡ n) × ((bytes : List ℕ) → Slower (f bytes) (g bytes))
Slow (Stores x a) (Stores y b) = (x ≡ y) × Slower a b
Slow _ _ = ⊥

module _ (c : Core) (d : ℕ) (low : d ≤ c.delay) where
  abbrev e : Core
  e = record c { delay = d }

  either : (test : Bool) (why : Stop) (f : Core → Effect) → Slow (f c) (f e) → Slow (if test then Stops why else f c) (if test then Stops why else f e)
  either true why f h = refl
  either false why f h = h

  super_by : (test : Bool) (f : Core → Effect) → Slow (f c) (f e) → Slow (if test then f c else Stops cause.NoInstruction) (if test then f e else Stops cause.NoInstruction)
  super_by true f h = h
  super_by false f h = refl

  super : (f : Core → Effect) → Slow (f c) (f e) → Slow (super_only c (f c)) (super_only e (f e))
  super f h = super_by c.quirks.has_super_instructions f h

  logic : (clears : Bool) (x v : ℕ) → Slower (next (if clears then with_flag x v 0 c else with_reg x v c)) (next (if clears then with_flag x v 0 e else with_reg x v e))
  logic true x v = (d, low, refl)
  logic false x v = (d, low, refl)

  resize : (clears high : Bool) → Slower (next (with_size high (if clears then with_lit set.empty c else c))) (next (with_size high (if clears then with_lit set.empty e else e)))
  resize true high = (d, low, refl)
  resize false high = (d, low, refl)

  abbrev summed : Bool → ℕ → Core → Core
  summed flags n k =
      let moved = with_index ((k.index + n) % 65536) k in
      if flags then with_reg 15 (bit_of (nat_lt 4095 (k.index + n))) moved else moved

  add : (flags : Bool) (n : ℕ) → Slower (next (summed flags n c)) (next (summed flags n e))
  add true n = (d, low, refl)
  add false n = (d, low, refl)

  waits : (key : Option ℕ) (x : ℕ) → Slower (take_key key x c) (take_key key x e)
  waits None x = (d, low, refl)
  waits (Some k) x = (d, low, refl)

  draws : (nothing : Bool) (x y n : ℕ)
      → Slow (if nothing then Changes (next (with_reg 15 0 c)) else Loads (sprite_bytes (has_wide_sixteen c) n) (λ sprite. next (with_sprite (reg c x) (reg c y) n sprite c)))
      (if nothing then Changes (next (with_reg 15 0 e)) else Loads (sprite_bytes (has_wide_sixteen e) n) (λ sprite. next (with_sprite (reg e x) (reg e y) n sprite e)))
  draws true x y n = (d, low, refl)
  draws false x y n = (refl, λ sprite. (d, low, refl))

  row_slow : (instr : Instr) → register_read (Some instr) ≡ None → Slow (effect instr c) (effect instr e)
  unfolding effect
  row_slow (row.ScrollDown n) u = super (λ k. Changes (next (with_lit (scrolled_down (scrolled_by n k) k.lit) k))) (d, low, refl)
  row_slow row.Return u = either _ _ (λ k. Changes (return k)) (d, low, refl)
  row_slow row.ScrollRight u = super (λ k. Changes (next (with_lit (scrolled_right (scrolled_by 4 k) k.lit) k))) (d, low, refl)
  row_slow row.ScrollLeft u = super (λ k. Changes (next (with_lit (scrolled_left (scrolled_by 4 k) k.lit) k))) (d, low, refl)
  row_slow row.Exit u = super (λ k. Stops cause.Exit) refl
  row_slow row.LowSize u = super (λ k. Changes (next (resized false k))) (resize c.quirks.clears_at_size false)
  row_slow row.HighSize u = super (λ k. Changes (next (resized true k))) (resize c.quirks.clears_at_size true)
  row_slow (row.Call address) u = either _ _ (λ k. Changes (call address k)) (d, low, refl)
  row_slow (row.Or x y) u = logic c.quirks.clears_flag x _
  row_slow (row.And x y) u = logic c.quirks.clears_flag x _
  row_slow (row.Xor x y) u = logic c.quirks.clears_flag x _
  row_slow (row.Draw x y n) u = draws (draws_nothing n c) x y n
  row_slow (row.SkipIfKey x) u = λ keys. (d, low, refl)
  row_slow (row.SkipUnlessKey x) u = λ keys. (d, low, refl)
  row_slow (row.ReadDelay x) u = absurd (cc)
  row_slow (row.WaitKey x) u = λ keys. waits (find (is_key_down keys) (range_with_len 0 16)) x
  row_slow (row.SetDelay x) u = (reg c x, omega arith, refl)
  row_slow (row.AddIndex x) u = add c.quirks.flags_overflow (reg c x)
  row_slow (row.BigDigit x) u = super (λ k. Changes (next (record k { index = 80 + 10 * (reg k x % 16) }))) (d, low, refl)
  row_slow (row.StoreDecimal x) u = (refl, (d, low, refl))
  row_slow (row.StoreRegisters x) u = (refl, (d, low, refl))
  row_slow (row.LoadRegisters x) u = (refl, λ bytes. (d, low, refl))
  row_slow (row.StoreFlags x) u = super (λ k. if nat_le (length k.flags) x then Stops cause.NoFlag else Changes (next (store_flags x k))) (either _ _ (λ k. Changes (next (store_flags x k))) (d, low, refl))
  row_slow (row.LoadFlags x) u = super (λ k. if nat_le (length k.flags) x then Stops cause.NoFlag else Changes (next (load_flags x k))) (either _ _ (λ k. Changes (next (load_flags x k))) (d, low, refl))
  row_slow other u = (d, low, refl)

  at_slow : (past : Bool) (word : Option Instr) → register_read (if past then None else word) ≡ None
      → Slow (if past then Stops cause.PcOutOfRange else effect_of_word word c) (if past then Stops cause.PcOutOfRange else effect_of_word word e)
  at_slow true word u = refl
  at_slow false None u = refl
  at_slow false (Some instr) u = row_slow instr u

-- the number of bytes at I that a step reads and writes doesn't depend on the delay timer
abbrev Counts : Effect → Effect → Type 0
Counts a b = (loaded a ≡ loaded b) × (written a ≡ written b)

slow_counts : (x y : Effect) → Slow x y → Counts x y
slow_counts (Stops a) (Stops b) h = (refl, refl)
slow_counts (Changes a) (Changes b) h = (refl, refl)
slow_counts (Keyed f) (Keyed g) h = (refl, refl)
slow_counts (Loads m f) (Loads n g) h = (h.0, refl)
slow_counts (Stores x a) (Stores y b) h = (refl, ap (λ (bytes : List ℕ). length bytes) h.0)
slow_counts _ _ h = absurd h

module _ (c : Core) (d : ℕ) (low : d ≤ c.delay) where
  abbrev slowed : Core
  slowed = record c { delay = d }

  row_counts : (instr : Instr) → Counts (effect instr c) (effect instr slowed)
  unfolding effect
  row_counts (row.ReadDelay x) = (refl, refl)
  row_counts instr = slow_counts (effect instr c) (effect instr slowed) (row_slow c d low instr refl)

  at_counts : (past : Bool) (word : Option Instr) → Counts (if past then Stops cause.PcOutOfRange else effect_of_word word c) (if past then Stops cause.PcOutOfRange else effect_of_word word slowed)
  at_counts true word = (refl, refl)
  at_counts false None = (refl, refl)
  at_counts false (Some instr) = row_counts instr

module _ (s : State) (d : ℕ) (low : d ≤ s.core.delay) (f : ℕ) where
  counts : Counts (effect_at s) (effect_at (with_delay d s))
  counts = at_counts s.core d low (nat_lt LAST_WORD s.core.pc) (decode_of (word_at s.memory s.core.pc))

  pub unneeded_delayed : IsUnneeded f s → IsUnneeded f (with_delay d s)
  unneeded_delayed h =
      record { parts = h.parts; fetched = h.fetched; drawn = λ on. subst (λ (n : ℕ). AreKept f s.core.index n) counts.0 (h.drawn on) }

  pub after_delayed : (to after : ℕ) → IsForgottenAfter f s to after → IsForgottenAfter f (with_delay d s) to after
  after_delayed to after h =
      record {
        parts = h.parts;
        bytes = λ at was unwritten. h.bytes at was (subst (λ (n : ℕ). is_in_row s.core.index n at ≡ false) (sym counts.1) unwritten);
        loaded = λ place low. h.loaded place (subst (λ (n : ℕ). place < n) (sym counts.0) low);
        stored = λ place low. h.stored place (subst (λ (n : ℕ). place < n) (sym counts.1) low);
      }

-- a state is like another one, except for a delay timer that is at most the other one's
pub record Delayed (a b : State) : Type 0 where
  pub delay : ℕ
  pub most : delay ≤ a.core.delay
  pub is : b ≡ with_delay delay a

abbrev Ends : Result State Stop → Result State Stop → Type 0
Ends (Ok a) (Ok b) = Delayed a b
Ends (Err a) (Err b) = a ≡ b
Ends _ _ = ⊥

module _ (s : State) (d : ℕ) (low : d ≤ s.core.delay) (keys : ℕ) where
  abbrev there : State
  there = with_delay d s

  past_slow : (past : Bool) (a b : State) → Delayed a b → Ends (if past then Err cause.AddressOutOfRange else Ok a) (if past then Err cause.AddressOutOfRange else Ok b)
  past_slow true a b h = refl
  past_slow false a b h = h

  perform_slow : (x y : Effect) → Slow x y → Ends (perform keys s x) (perform keys there y)
  perform_slow (Stops a) (Stops b) h = h
  perform_slow (Changes a) (Changes b) h = record { delay = h.0; most = h.1; is = ap (λ (k : Core). let t : State = record s { core = k } in t) h.2 }
  perform_slow (Keyed f) (Keyed g) h =
      let k = h keys in
      record { delay = k.0; most = k.1; is = ap (λ (c : Core). let t : State = record s { core = c } in t) k.2 }
  perform_slow (Loads m f) (Loads n g) h =
      let bytes = take m (drop s.core.index s.memory) in
      let k = h.1 bytes in
      subst (λ (n : ℕ). Ends (perform keys s (Loads m f)) (perform keys there (Loads n g))) h.0
      (past_slow (is_past s.core.index m) _ _
      (record { delay = k.0; most = k.1; is = ap (λ (c : Core). let t : State = record s { core = c } in t) k.2 }))
  perform_slow (Stores x a) (Stores y b) h =
      let k = h.1 in
      subst (λ (y : List ℕ). Ends (perform keys s (Stores x a)) (perform keys there (Stores y b))) h.0
      (past_slow (is_past s.core.index (length x)) _ _
      (record { delay = k.0; most = k.1; is = ap (λ (c : Core). let t : State = record { core = c; memory = overwrite s.memory s.core.index x } in t) k.2 }))
  perform_slow _ _ h = absurd h

  settle_slow : (r q : Result State Stop) → Ends r q → Delayed (settle false s r) (settle false there q)
  settle_slow (Ok a) (Ok b) h = h
  settle_slow (Err a) (Err b) h =
      record { delay = d; most = low; is = ap (λ (why : Stop). let t : State = record there { core = record there.core { stopped = Some why } } in t) (sym h) }
  settle_slow _ _ h = absurd h

  step_slow : (stopped : Bool) → (if stopped then None else register_read (next_instr s)) ≡ None
      → Delayed (if stopped then s else settle false s (perform keys s (effect_at s))) (if stopped then there else settle false there (perform keys there (effect_at there)))
  step_slow true u = record { delay = d; most = low; is = refl }
  step_slow false u = settle_slow _ _ (perform_slow _ _ (at_slow s.core d low (nat_lt LAST_WORD s.core.pc) (decode_of (word_at s.memory s.core.pc)) u))

  -- a step that doesn't read the delay timer acts the same with a smaller one, and may set it to another value
  pub delayed_step : delay_register s ≡ None → Delayed (step_of s keys false) (step_of there keys false)
  unfolding step_of
  delayed_step u = step_slow (is_some s.core.stopped) u

-- ---- a step that reads the delay timer

module _ (x : ℕ) (c : Core) where
  abbrev told : Effect
  told = Changes (next (with_reg x c.delay c))

  row_read : (instr : Instr) → register_read (Some instr) ≡ Some x → effect instr c ≡ told
  unfolding effect
  row_read (row.ReadDelay y) u =
      let same : y ≡ x = cc in
      ap (λ (n : ℕ). Changes (next (with_reg n c.delay c))) same
  row_read other u = absurd (cc)

  at_read : (past : Bool) (word : Option Instr) → register_read (if past then None else word) ≡ Some x → (if past then Stops cause.PcOutOfRange else effect_of_word word c) ≡ told
  at_read true word u = absurd (cc)
  at_read false None u = absurd (cc)
  at_read false (Some instr) u = row_read instr u

step_read : (s : State) (x keys : ℕ) (stopped : Bool) → (if stopped then None else register_read (next_instr s)) ≡ Some x
    → (if stopped then s else settle false s (perform keys s (effect_at s))) ≡ (record s { core = next (with_reg x s.core.delay s.core) })
step_read s x keys true u = absurd (cc)
step_read s x keys false u =
    ap (λ (e : Effect). settle false s (perform keys s e)) (at_read x s.core (nat_lt LAST_WORD s.core.pc) (decode_of (word_at s.memory s.core.pc)) u)

pub read_step : (s : State) (x keys : ℕ) → delay_register s ≡ Some x → step_of s keys false ≡ (record s { core = next (with_reg x s.core.delay s.core) })
unfolding step_of
read_step s x keys u = step_read s x keys (is_some s.core.stopped) u

-- a step that reads the delay timer leads to the same address with each value
pub place_read : (s : State) (x value : ℕ) → delay_register s ≡ Some x → (read_as value s).core.pc ≡ (step_of s 0 false).core.pc
place_read s x value reads =
    ap (λ (b : State). b.core.pc) (read_step (with_delay value s) x 0 reads) ∙ sym (ap (λ (b : State). b.core.pc) (read_step s x 0 reads))

-- if a step tells values apart, the ticks are free
timed_by : (free at_zero : Bool) (s : State) (x : ℕ) → (if free && not at_zero then delay_register s else None) ≡ Some x → (free ≡ true) × (delay_register s ≡ Some x)
timed_by true true s x h = absurd (cc)
timed_by true false s x h = (refl, h)
timed_by false at_zero s x h = absurd (cc)

pub timed_reads : (p : Setting) (s : State) (x : ℕ) → timed_register p s ≡ Some x → (p.free ≡ true) × (delay_register s ≡ Some x)
timed_reads p s x h = timed_by p.free (s.core.delay == 0) s x h

-- ---- a step in which the timers tick

abbrev pub with_timers : (delay sound : ℕ) → State → State
with_timers delay sound s = record s { core = record s.core { delay = delay; sound = sound } }

pub record Ticked (a b : State) : Type 0 where
  pub delay : ℕ
  pub sound : ℕ
  pub most : delay ≤ a.core.delay
  pub is : b ≡ with_timers delay sound a

settle_ticked : (tick : Bool) (s : State) (r : Result State Stop) → Ticked (settle false s r) (settle tick s r)
settle_ticked true s (Ok a) = record { delay = a.core.delay - 1; sound = a.core.sound - 1; most = omega arith; is = refl }
settle_ticked false s (Ok a) = record { delay = a.core.delay; sound = a.core.sound; most = omega arith; is = refl }
settle_ticked tick s (Err why) = record { delay = s.core.delay; sound = s.core.sound; most = omega arith; is = refl }

step_ticked : (stopped tick : Bool) (s : State) (keys : ℕ) → Ticked (if stopped then s else settle false s (perform keys s (effect_at s))) (if stopped then s else settle tick s (perform keys s (effect_at s)))
step_ticked true tick s keys = record { delay = s.core.delay; sound = s.core.sound; most = omega arith; is = refl }
step_ticked false tick s keys = settle_ticked tick s (perform keys s (effect_at s))

pub ticked_step : (s : State) (keys : ℕ) (tick : Bool) → Ticked (step_of s keys false) (step_of s keys tick)
unfolding step_of
ticked_step s keys tick = step_ticked (is_some s.core.stopped) tick s keys

-- ---- states that are alike, with other timers

alike_timers : (f d e x y : ℕ) (a b : State) → Alike f a b → others (with_timers d x a).core ≡ others (with_timers e y b).core → Alike f (with_timers d x a) (with_timers e y b)
alike_timers f d e x y a b h same =
    record {
      proper = record { memory_size = h.proper.memory_size };
      others = same;
      size = h.size;
      draws = h.draws;
      count = h.count;
      registers = h.registers;
      index = h.index;
      near = h.near;
      screen = h.screen;
      memory = h.memory;
    }

pub alike_silent : (f delay sound : ℕ) (a b : State) → Alike f (with_timers delay sound a) b → Alike f (with_delay delay a) b
alike_silent f delay sound a b h = alike_timers f delay b.core.delay a.core.sound b.core.sound (with_timers delay sound a) b h h.others

pub alike_delayed : (f d : ℕ) (a b : State) → Alike f a b → Alike f (with_delay d a) (with_delay d b)
alike_delayed f d a b h = alike_timers f d d a.core.sound b.core.sound a b h (ap (λ (o : Core). record o { delay = d }) h.others)

pub within_bound : (value bound : ℕ) → value ≤ bound → value ≤ bound_after value bound
within_bound value bound low = by_test (value == 0) refl
  where
    by_test : (test : Bool) → (value == 0) ≡ test → value ≤ (if test then 0 else bound)
    by_test true is = let none : value ≡ 0 = eqb-true value 0 is in omega arith
    by_test false is = low
