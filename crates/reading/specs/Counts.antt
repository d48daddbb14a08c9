-- How many bytes of a buffer are those that were put there.
use Rattle.std.specs.Prelude.{◌≡◌, ℕ, ◌≤◌, List, length, take, Result, Ok, Err}
use Rattle.reading.specs.declared.ReadFailed.{ReadFailed}

-- so many bytes of a buffer are there, and as its first part they have that length
abbrev pub IsPrefixLen : ℕ → List ℕ → Type 0
IsPrefixLen n xs = (n ≤ length xs) × (n ≡ length (take n xs))

-- how many bytes were read, also where a read failed
abbrev pub bytes_read : Result ℕ ReadFailed → ℕ
bytes_read (Ok bytes) = bytes
bytes_read (Err failed) = failed.bytes
