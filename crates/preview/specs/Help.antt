-- When help is asked for, by docs/PROGRAMS.md, "preview": "`preview --help` prints".
use Rattle.std.specs.Prelude.{ℕ, ◌≡◌, List, codes}

-- in bytes
abbrev pub help_word : List ℕ
help_word = codes "--help"

-- The program's name and the word, and no other argument.
pub record HelpAsked (count : ℕ) (first : List ℕ) : Type 0 where
  pub alone : count ≡ 2
  pub word : first ≡ help_word
