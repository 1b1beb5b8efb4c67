-- The words of the language, all in upper case (chosen by this project).
use Rattle.std.specs.Prelude.{ℕ, List, Bool, ◌||◌, Option, Some, None, is_some, if◌then◌else◌, codes}
use Rattle.std.specs.Str.{bytes_eq}
use Rattle.chip_lang.specs.Keyword.{register_of}
use Rattle.chip_explore.specs.declared.property.Item.{Item}
use Rattle.chip_explore.specs.declared.property.Item.TheVariants.{Register, Index, Place, Delay, Depth, High, AsksKeys}
use Rattle.chip_properties.specs.declared.stated.Kind.{Kind}
use Rattle.chip_properties.specs.declared.stated.Kind.TheVariants.{Always, Never, Ever, Can}

-- the kind of property that begins with a word
abbrev pub kind_of_word : List ℕ → Option Kind
kind_of_word w =
    if bytes_eq w (codes "ALWAYS") then Some Always
    else (if bytes_eq w (codes "NEVER") then Some Never
    else (if bytes_eq w (codes "EVER") then Some Ever
    else (if bytes_eq w (codes "CAN") then Some Can else None)))

-- whether a word has a meaning in a property, so that a name with this spelling must be put in parentheses
abbrev pub is_property_word : List ℕ → Bool
is_property_word w =
    is_some (kind_of_word w) || bytes_eq w (codes "HERE") || bytes_eq w (codes "AT")
    || bytes_eq w (codes "PC") || bytes_eq w (codes "DEPTH") || bytes_eq w (codes "KEYS")
    || bytes_eq w (codes "PIXEL")

-- the item that a word names, if the word isn't a register
abbrev pub other_item : List ℕ → Option Item
other_item w =
    if bytes_eq w (codes "I") then Some Index
    else (if bytes_eq w (codes "PC") then Some Place
    else (if bytes_eq w (codes "DT") then Some Delay
    else (if bytes_eq w (codes "DEPTH") then Some Depth
    else (if bytes_eq w (codes "HIGH") then Some High
    else (if bytes_eq w (codes "KEYS") then Some AsksKeys else None)))))

abbrev pub or_register : Option ℕ → Option Item → Option Item
or_register (Some x) other = Some (Register x)
or_register None other = other

-- the item that a word names
abbrev pub item_of_word : List ℕ → Option Item
item_of_word w = or_register (register_of w) (other_item w)
