-- Each instruction has one word.
use Rattle.std.proofs.Common.{◌≡◌, ℕ, ◌+◌, ◌*◌, ◌<◌, ◌/◌, ◌%◌, true, map, Some, refl, sym, ap, ◌∙◌, arith}
use Rattle.chip_lang.specs.declared.instr.Instr.{Instr}
use Rattle.chip_lang.specs.declared.instr.Instr.TheVariants.{ScrollDown, ClearScreen, Return, ScrollRight, ScrollLeft, Exit, LowSize, HighSize, Jump, Call, SkipIfByte, SkipUnlessByte, SkipIfEqual, LoadByte, AddByte, Copy, Or, And, Xor, Add, Subtract, ShiftRight, SubtractFrom, ShiftLeft, SkipUnlessEqual, LoadIndex, JumpOffset, Random, Draw, SkipIfKey, SkipUnlessKey, ReadDelay, WaitKey, SetDelay, SetSound, AddIndex, SmallDigit, BigDigit, StoreDecimal, StoreRegisters, LoadRegisters, StoreFlags, LoadFlags}
use Rattle.chip_lang.specs.Table.{Fields, fields_in, Row, table}
use Rattle.chip_lang.specs.Decoding.{gives, entry_of, decode_of}
use Rattle.chip_lang.specs.inner.ByDigits.{fields, digit, takes_top, takes_x, takes_y, takes_n}
use Rattle.chip_lang.proofs.Digits.{is_proper, gives_digits, gives_small}
use Rattle.chip_lang.proofs.OwnDigits.{own_digit, own_digits, found_same}
use Rattle.chip_lang.proofs.Shown.{entry_gives, made_of}

abbrev of_address : (top a : ℕ) → ℕ
of_address top a = 4096 * top + a

abbrev of_byte : (top x byte : ℕ) → ℕ
of_byte top x byte = of_address top (256 * x + byte)

abbrev of_registers : (top x y n : ℕ) → ℕ
of_registers top x y n = of_byte top x (16 * y + n)

-- the word of an instruction
abbrev word_of : Instr → ℕ
word_of (ScrollDown n) = of_registers 0 0 12 n
word_of ClearScreen = 0x00E0
word_of Return = 0x00EE
word_of ScrollRight = 0x00FB
word_of ScrollLeft = 0x00FC
word_of Exit = 0x00FD
word_of LowSize = 0x00FE
word_of HighSize = 0x00FF
word_of (Jump a) = of_address 1 a
word_of (Call a) = of_address 2 a
word_of (SkipIfByte x byte) = of_byte 3 x byte
word_of (SkipUnlessByte x byte) = of_byte 4 x byte
word_of (SkipIfEqual x y) = of_registers 5 x y 0
word_of (LoadByte x byte) = of_byte 6 x byte
word_of (AddByte x byte) = of_byte 7 x byte
word_of (Copy x y) = of_registers 8 x y 0
word_of (Or x y) = of_registers 8 x y 1
word_of (And x y) = of_registers 8 x y 2
word_of (Xor x y) = of_registers 8 x y 3
word_of (Add x y) = of_registers 8 x y 4
word_of (Subtract x y) = of_registers 8 x y 5
word_of (ShiftRight x y) = of_registers 8 x y 6
word_of (SubtractFrom x y) = of_registers 8 x y 7
word_of (ShiftLeft x y) = of_registers 8 x y 14
word_of (SkipUnlessEqual x y) = of_registers 9 x y 0
word_of (LoadIndex a) = of_address 10 a
word_of (JumpOffset a) = of_address 11 a
word_of (Random x byte) = of_byte 12 x byte
word_of (Draw x y n) = of_registers 13 x y n
word_of (SkipIfKey x) = of_byte 14 x 0x9E
word_of (SkipUnlessKey x) = of_byte 14 x 0xA1
word_of (ReadDelay x) = of_byte 15 x 0x07
word_of (WaitKey x) = of_byte 15 x 0x0A
word_of (SetDelay x) = of_byte 15 x 0x15
word_of (SetSound x) = of_byte 15 x 0x18
word_of (AddIndex x) = of_byte 15 x 0x1E
word_of (SmallDigit x) = of_byte 15 x 0x29
word_of (BigDigit x) = of_byte 15 x 0x30
word_of (StoreDecimal x) = of_byte 15 x 0x33
word_of (StoreRegisters x) = of_byte 15 x 0x55
word_of (LoadRegisters x) = of_byte 15 x 0x65
word_of (StoreFlags x) = of_byte 15 x 0x75
word_of (LoadFlags x) = of_byte 15 x 0x85

-- ---- the word of each entry is the word of its instruction

abbrev fields_at : (x y n : ℕ) → Fields
fields_at x y n = record { x = x; y = y; n = n; byte = 16 * y + n; address = 256 * x + (16 * y + n) }

abbrev own_fields : Row → ℕ → Fields
own_fields r w = fields_at (own_digit takes_x 8 r w) (own_digit takes_y 4 r w) (own_digit takes_n 0 r w)

abbrev own_word : Row → ℕ → ℕ
own_word r w = of_registers (own_digit takes_top 12 r w) (own_digit takes_x 8 r w) (own_digit takes_y 4 r w) (own_digit takes_n 0 r w)

words : (w : ℕ) → map (λ e. word_of (e.instr (own_fields e.form w))) table ≡ map (λ e. own_word e.form w) table
words w = refl

all_proper : map (λ e. is_proper e.form) table ≡ map (λ e. true) table
all_proper = refl

same_fields : (x y n byte a x' y' n' byte' a' : ℕ) → x ≡ x' → y ≡ y' → n ≡ n' → byte ≡ byte' → a ≡ a' → fields x y n byte a ≡ fields x' y' n' byte' a'
same_fields x y n byte a x' y' n' byte' a' p q r s t = rw (p, q, r, s, t) refl

fields_own : (w x y n : ℕ) → digit 8 w ≡ x → digit 4 w ≡ y → digit 0 w ≡ n → fields_in w ≡ fields_at x y n
fields_own w x y n p q r =
    same_fields (w / 256 % 16) (w / 16 % 16) (w % 16) (w % 256) (w % 4096) x y n (16 * y + n) (256 * x + (16 * y + n))
    (omega arith) (omega arith) (omega arith) (omega arith) (omega arith)

word_own : (w top x y n : ℕ) → w < 65536 → digit 12 w ≡ top → digit 8 w ≡ x → digit 4 w ≡ y → digit 0 w ≡ n → of_registers top x y n ≡ w
word_own w top x y n h p q r s = omega arith

-- the word of the instruction that a word decodes to is that same word
word_is : (w : ℕ) (instr : Instr) → decode_of w ≡ Some instr → word_of instr ≡ w
unfolding decode_of entry_of
word_is w instr h =
    let made = made_of (λ e. e.instr (fields_in w)) (entry_of w) instr h in
    let e = made.0 in
    let proper : is_proper e.form ≡ true = found_same (λ e. gives e.form w) (λ e. is_proper e.form) (λ e. true) table e all_proper made.1 in
    let given = entry_gives w e made.1 in
    let small = gives_small e.form w proper given in
    let own = own_digits e.form w (sym (gives_digits e.form w proper small) ∙ given) in
    let fields = fields_own w (own_digit takes_x 8 e.form w) (own_digit takes_y 4 e.form w) (own_digit takes_n 0 e.form w) own.x own.y own.n in
    ap word_of (sym made.2)
    ∙ ap (λ f. word_of (e.instr f)) fields
    ∙ found_same (λ e. gives e.form w) (λ e. word_of (e.instr (own_fields e.form w))) (λ e. own_word e.form w) table e (words w) made.1
    ∙ word_own w (own_digit takes_top 12 e.form w) (own_digit takes_x 8 e.form w) (own_digit takes_y 4 e.form w) (own_digit takes_n 0 e.form w) small own.top own.x own.y own.n

pub one_word : (v w : ℕ) (instr : Instr) → decode_of v ≡ Some instr → decode_of w ≡ Some instr → v ≡ w
one_word v w instr p q = sym (word_is v instr p) ∙ word_is w instr q
