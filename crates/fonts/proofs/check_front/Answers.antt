-- `fonts::check_front` meets its contract: its tests are the definition's, in the same order.
-- Assumes nothing.
use Rattle.words.specs.Refusal.{first_of}
use Rattle.fonts.specs.Reading.{too_short, bad_count, front_number}
use Rattle.words.proofs.Chain.{chain}
use Rattle.fonts.proofs.check_front.Goals as goal

pub returns-then-count-lt9 : goal.returns-then-count-lt9
unfolding front_number too_short bad_count first_of
returns-then-count-lt9 c = search chain depth 20

pub returns-then-bad_format : goal.returns-then-bad_format
unfolding front_number too_short bad_count first_of
returns-then-bad_format c = search chain depth 20

pub returns-then-kerned_too_short : goal.returns-then-kerned_too_short
unfolding front_number too_short bad_count first_of
returns-then-kerned_too_short c = search chain depth 20

pub returns-then-bad_codes : goal.returns-then-bad_codes
unfolding front_number too_short bad_count first_of
returns-then-bad_codes c = search chain depth 20

pub returns-then-not_within : goal.returns-then-not_within
unfolding front_number too_short bad_count first_of
returns-then-not_within c = search chain depth 20

pub returns-then-map_cut : goal.returns-then-map_cut
unfolding front_number too_short bad_count first_of
returns-then-map_cut c = search chain depth 20

pub returns-then-bad_box : goal.returns-then-bad_box
unfolding front_number too_short bad_count first_of
returns-then-bad_box c = search chain depth 20

pub returns : goal.returns
unfolding front_number too_short bad_count first_of
returns c = search chain depth 20
