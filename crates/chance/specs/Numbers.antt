-- The number that comes after a number. Assumes nothing.
use Rattle.std.specs.Prelude.{ℕ, ◌+◌, ◌*◌, ◌%◌, ◌^◌}

abbrev pub after : ℕ → ℕ
after n = (n * 1664525 + 1013904223) % 2 ^ 32
