-- Texts of programs.
use Rattle.std.specs.Prelude.{◌≢◌, ℕ, ◌≤◌}

-- a byte that a text may hold
abbrev pub IsTextByte : ℕ → Type 0
IsTextByte byte = (32 ≤ byte) × (byte ≤ 126) × (byte ≢ 39)
