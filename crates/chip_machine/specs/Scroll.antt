-- Scrolls. The lit pixels move by n, and pixels that leave the screen are lost.
-- Source: SUPER-CHIP 1.1 documentation.
use Rattle.std.specs.Prelude.{ℕ, ◌+◌, ◌-◌, ◌&&◌, nat_le}
use Rattle.chip_machine.specs.Points.{Points, points_where, is_lit}

unfoldable pub scrolled_down : ℕ → Points → Points
scrolled_down n lit = points_where (λ column row. nat_le n row && is_lit lit column (row - n))

unfoldable pub scrolled_right : ℕ → Points → Points
scrolled_right n lit = points_where (λ column row. nat_le n column && is_lit lit (column - n) row)

unfoldable pub scrolled_left : ℕ → Points → Points
scrolled_left n lit = points_where (λ column row. is_lit lit (column + n) row)
