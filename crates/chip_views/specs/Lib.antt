-- The views of images, screens and sources (chosen by this project).
--     Bitmap    the screen as a picture with one bit for each pixel
--     Checksum  CRC-32 and Adler-32
--     Dis       the source text that is built from an image
--     Hexadecimal  the names and the listing of a source with values in hexadecimal
--     Picture   the screen as text
--     Png       the screen as a PNG picture
pub mod Bitmap
pub mod Checksum
pub mod Dis
pub mod Hexadecimal
pub mod Picture
pub mod Png
