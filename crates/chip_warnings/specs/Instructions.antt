-- The effects of instructions that warnings depend on (COSMAC VIP manual; SUPER-CHIP 1.1).
use Rattle.std.specs.Prelude.{Bool, true, false, not, ◌==◌, Option, Some}
use Rattle.chip_lang.specs.declared.instr.Instr.{Instr}
use Rattle.chip_lang.specs.declared.instr.Instr.TheVariants as instr

-- whether an instruction goes somewhere other than to the next one: JP, RET, EXIT
abbrev pub goes_elsewhere : Option Instr → Bool
goes_elsewhere (Some (instr.Jump a)) = true
goes_elsewhere (Some instr.Return) = true
goes_elsewhere (Some instr.Exit) = true
goes_elsewhere other = false

-- whether an instruction may skip the next one: SE, SNE, SKP, SKNP
abbrev pub may_skip : Option Instr → Bool
may_skip (Some (instr.SkipIfByte x byte)) = true
may_skip (Some (instr.SkipUnlessByte x byte)) = true
may_skip (Some (instr.SkipIfEqual x y)) = true
may_skip (Some (instr.SkipUnlessEqual x y)) = true
may_skip (Some (instr.SkipIfKey x)) = true
may_skip (Some (instr.SkipUnlessKey x)) = true
may_skip other = false

-- whether an instruction leads to one address: JP, CALL
abbrev pub leads_to_one : Option Instr → Bool
leads_to_one (Some (instr.Jump a)) = true
leads_to_one (Some (instr.Call a)) = true
leads_to_one other = false

-- whether an instruction leads to one of 256 addresses, so that a jump table may follow it: JP V0
abbrev pub jumps_by_table : Option Instr → Bool
jumps_by_table (Some (instr.JumpOffset a)) = true
jumps_by_table other = false

-- whether an instruction points at bytes: LD I
abbrev pub points : Option Instr → Bool
points (Some (instr.LoadIndex a)) = true
points other = false

-- whether an instruction writes to memory: LD B, Vx and LD [I], Vx
abbrev pub stores : Option Instr → Bool
stores (Some (instr.StoreDecimal x)) = true
stores (Some (instr.StoreRegisters x)) = true
stores other = false

-- whether an instruction's random byte can be other than 0: RND with a mask other than 0, because only the bits of the
-- mask can be 1
abbrev pub draws : Option Instr → Bool
draws (Some (instr.Random x mask)) = not (mask == 0)
draws other = false

-- whether SUPER-CHIP added an instruction: SCD, SCR, SCL, EXIT, LOW, HIGH, LD HF, LD R
abbrev pub is_super_instruction : Option Instr → Bool
is_super_instruction (Some (instr.ScrollDown n)) = true
is_super_instruction (Some instr.ScrollRight) = true
is_super_instruction (Some instr.ScrollLeft) = true
is_super_instruction (Some instr.Exit) = true
is_super_instruction (Some instr.LowSize) = true
is_super_instruction (Some instr.HighSize) = true
is_super_instruction (Some (instr.BigDigit x)) = true
is_super_instruction (Some (instr.StoreFlags x)) = true
is_super_instruction (Some (instr.LoadFlags x)) = true
is_super_instruction other = false
