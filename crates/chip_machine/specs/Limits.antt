-- The limits of the memory and of an image, for the crates that depend on chip_machine. chip_lang
-- defines the constants.
-- Source: COSMAC VIP manual.
pub use Rattle.chip_lang.specs.declared.limits.TheConstants.{IMAGE_BYTES, IMAGE_START, MEMORY_BYTES}
