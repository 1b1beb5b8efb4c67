-- The addresses that the instructions of a source name, and the purpose of each (chosen by this project).
use Rattle.std.specs.Prelude.{ℕ, ◌+◌, ◌==◌, ◌&&◌, ◌||◌, not, Bool, if◌then◌else◌, nat_le, nat_lt, List, Option, Some, None}
use Rattle.std.specs.List.{list_any}
use Rattle.chip_lang.specs.declared.limits.TheConstants.{MEMORY_BYTES}
use Rattle.chip_warnings.specs.declared.marks.Naming.{Naming}
use Rattle.chip_warnings.specs.declared.marks.Naming.TheVariants.{Jump, Point}
use Rattle.chip_warnings.specs.declared.seen.Seen.{Seen}
use Rattle.chip_lang.specs.Decoding.{decode_of}
use Rattle.chip_warnings.specs.Instructions.{jumps_by_table, leads_to_one, points, stores}
use Rattle.chip_warnings.specs.Seen.{base_of, holds_of, is_code, is_data, target_of}

-- whether an address lies in memory and is one of the `count` addresses that start at `first`
abbrev pub is_among : (first count address : ℕ) → Bool
is_among first count address =
    nat_le first address && nat_lt address (first + count) && nat_lt address MEMORY_BYTES

-- the number of addresses that an instruction may go to: 1 for JP and CALL, 256 for JP V0, and otherwise 0
abbrev pub places_jumped_to : (base : ℕ) → ℕ
places_jumped_to base = if leads_to_one (decode_of base) then 1 else (if jumps_by_table (decode_of base) then 256 else 0)

-- the number of addresses that an instruction points at: 1 for LD I, and otherwise 0
abbrev pub places_pointed_at : (base : ℕ) → ℕ
places_pointed_at base = if points (decode_of base) then 1 else 0

-- the number of addresses that an instruction names for a purpose
abbrev pub places_named : Naming → (base : ℕ) → ℕ
places_named Jump base = places_jumped_to base
places_named Point base = places_pointed_at base

-- a number of addresses that depends on the instruction of a line; 0 if the line isn't an instruction
abbrev pub places_of : (places : (base : ℕ) → ℕ) → Option ℕ → ℕ
places_of places None = 0
places_of places (Some base) = places base

-- whether a line is an instruction that names an address for a purpose
abbrev pub names_at : Naming → (address : ℕ) → Seen → Bool
names_at naming address s =
    is_among (target_of s.says) (places_of (places_named naming) (base_of s.says)) address

-- whether a line is a store: LD B, Vx or LD [I], Vx
abbrev pub is_store : Seen → Bool
is_store s = holds_of stores (base_of s.says)

-- whether a line is data that begins at an address, and the address lies in memory
abbrev pub is_data_at : (address : ℕ) → Seen → Bool
is_data_at address s = is_data s.says && s.address == address && nat_lt address MEMORY_BYTES

-- whether a program contains a store
abbrev pub has_store : List Seen → Bool
has_store lines = list_any is_store lines

-- whether some LD I names an address
abbrev pub is_pointed_at : List Seen → (address : ℕ) → Bool
is_pointed_at lines address = list_any (names_at Point address) lines

-- whether a line is an instruction, and some LD I names the address of one of its bytes
abbrev pub is_code_pointed_at : List Seen → Seen → Bool
is_code_pointed_at lines s =
    is_code s.says && (is_pointed_at lines s.address || is_pointed_at lines (s.address + 1))

-- the marks of the addresses of a program
pub record Marked : Type 0 where
  -- whether an instruction may go to an address
  pub jumped : (address : ℕ) → Bool
  -- whether data begins at an address, and no store may write there
  pub data_at : (address : ℕ) → Bool
  -- whether the program may overwrite its instructions
  pub writes_code : Bool

abbrev pub marked_by : List Seen → Marked
marked_by lines =
    record {
      jumped = λ address. list_any (names_at Jump address) lines;
      data_at = λ address.
          list_any (is_data_at address) lines
          && not (has_store lines && is_pointed_at lines address);
      writes_code = has_store lines && list_any (is_code_pointed_at lines) lines;
    }
