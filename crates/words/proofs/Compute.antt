-- All the definitions of this crate and of those below it, opened at once, so that a worked case computes: `unfolding computing`.
use Rattle.words.specs.Word.{bit_of, word_to, word_of, words_of, bytes_of, odd_bytes, table, over}
use Rattle.words.specs.Search.{some_below, first_below, last_below, sum_below, most_below}
use Rattle.words.specs.Refusal.{first_of, or_else, not_within}
use Rattle.words.specs.Place.{outside, place_of, signed_word, dot_at}
use Rattle.words.specs.Effect.{mode_of, altered}

unfoldable pub bits : Unit {0}
unfolding bit_of word_to word_of words_of bytes_of odd_bytes table over
bits = tt

unfoldable pub searches : Unit {0}
unfolding some_below first_below last_below sum_below most_below first_of or_else not_within
searches = tt

unfoldable pub computing : Unit {0}
unfolding bits searches outside place_of signed_word dot_at mode_of altered
computing = tt
