-- The definitions behind the contracts of chip_pages (chosen by this project).
--     Licences     the text that `licences` prints
--     Pages        the texts that `explain` prints
pub mod Licences
pub mod Pages
