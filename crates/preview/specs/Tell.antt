-- When the counts are asked for, by docs/PROGRAMS.md, "preview": "`--counts` is the first of five arguments".
use Rattle.std.specs.Prelude.{ℕ, ◌≡◌, List, codes}

-- in bytes
abbrev pub counts_word : List ℕ
counts_word = codes "--counts"

-- The program's name, the word, and four arguments more.
pub record CountsAsked (count : ℕ) (first : List ℕ) : Type 0 where
  pub first-of-five : count ≡ 6
  pub word : first ≡ counts_word
