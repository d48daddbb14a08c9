-- `convert::check_drawing` meets its contract: its tests are the definition's, in the same order.
-- Assumes nothing.
use mathlib.Core.Path.{◌∙◌}
use Rattle.words.specs.Refusal.{first_of}
use Rattle.words.proofs.Chain.{chain-of-replies}
use Rattle.convert.specs.Writing.{no_room, drawing_number}
use Rattle.convert.proofs.Laid.{large-by, words-by}
use Rattle.convert.proofs.check_drawing.Goals as goal

pub returns-then-bad_spacing : goal.returns-then-bad_spacing
unfolding drawing_number first_of
returns-then-bad_spacing c = search chain-of-replies depth 20

pub returns-then-bad_offset : goal.returns-then-bad_offset
unfolding drawing_number first_of
returns-then-bad_offset c = search chain-of-replies depth 20

pub returns-then-too_large : goal.returns-then-too_large
unfolding drawing_number first_of
returns-then-too_large c =
    let large = c.too_large.ensures ∙ large-by _ c.args.layout c.requires in
    search chain-of-replies depth 20

pub returns-then-room-file_words : goal.returns-then-room-file_words
unfolding drawing_number first_of no_room
returns-then-room-file_words c =
    let large = c.too_large.ensures ∙ large-by _ c.args.layout c.requires in
    let words = c.file_words.ensures ∙ words-by _ c.args.layout c.requires in
    search chain-of-replies depth 20

pub returns : goal.returns
unfolding drawing_number first_of no_room
returns c =
    let large = c.too_large.ensures ∙ large-by _ c.args.layout c.requires in
    let words = c.file_words.ensures ∙ words-by _ c.args.layout c.requires in
    search chain-of-replies depth 20
