-- `neighbours::write_place` meets its contract: the first lines, then those of the records before and after the place.
use Rattle.std.proofs.Common.{◌≡◌, refl, ◌∙◌, rules, arith}
use Rattle.theory.specs.Basics.{mark}
use Rattle.theory.specs.Words.{list_in}
use Rattle.theory.proofs.Words.{length_pairs_in}
use Rattle.theory.proofs.Lists.{listed}
use Rattle.pairs.specs.Located.{place_in}
use Rattle.lines.specs.Text.{text}
use Rattle.lines.proofs.Parts.{Left, left_lent, lent_back}
use Rattle.texts.specs.Neighbours.{place_form, before_form, after_form, place_text}
use Rattle.texts.proofs.Places.{head_room, before_room, after_left}
use Rattle.texts.proofs.neighbours.write_place.Goals as goal
use Rattle.texts.proofs.neighbours.write_place.Goals.{Joined-place, After-new-writer, in-Ok, in-Err}

-- 1 or 0 for held, and the place
told : (c : Joined-place) → let l = place_in c.args.place in (c.match-place.held.0 ≡ mark l.held) × (c.match-place.held.1 ≡ l.at)
unfolding mark
told c = elim c.match-place.branch [
  | in-Ok w ↦ rw (w.held-is, w.in-Ok.is) (refl, refl)
  | in-Err w ↦ rw (w.held-is, w.in-Err.is) (refl, refl)
]

pub overflow_cast-at : goal.overflow_cast-at
unfolding list_in
overflow_cast-at c =
    let l = c.args.list in
    let few = (listed (list_in l.n l.m l.ends.now l.weights.now) l.held.listed).short in
    record { fits = omega (arith, (told (goal.at.overflow_cast-at c).Joined-place).1, c.requires.at_le_m, few, length_pairs_in l.m l.ends.now l.weights.now) }

-- the text is to be written
all : (c : After-new-writer) → let l = c.args.list in let t = place_text (place_in c.args.place) (list_in l.n l.m l.ends.now l.weights.now).pairs in
    Left t c.new-writer.result t c.new-writer.result
all c = left_lent c.new-writer.ensures.unwritten c.new-writer.ensures.start c.requires.room

pub line-requires : goal.line-requires
unfolding place_form text
line-requires c =
    head_room (place_in c.args.place) _ _ _ (told (goal.at.line-requires c).Joined-place) (all (goal.at.line-requires c).After-new-writer)

pub write_record-requires : goal.write_record-requires
unfolding place_form before_form text
write_record-requires c =
    let at = goal.at.write_record-requires c in
    before_room (place_in c.args.place) _ _ _ (told at.Joined-place) (all at.After-new-writer) c.line.ensures

pub write_record-requires-2 : goal.write_record-requires-2
unfolding place_form before_form after_form text
write_record-requires-2 c =
    let at = goal.at.write_record-requires-2 c in
    (after_left (place_in c.args.place) _ _ _ (told at.Joined-place) (all at.After-new-writer) c.line.ensures c.write_record.ensures).room

pub returns : goal.returns
unfolding place_form before_form after_form text
returns c =
    let at = goal.at.returns c in
    let names = c.write_record-2.ensures.same_buffer ∙ c.write_record.ensures.same_buffer ∙ c.line.ensures.same_buffer ∙ c.new-writer.ensures.same_buffer in
    let left = after_left (place_in c.args.place) _ _ _ (told at.Joined-place) (all at.After-new-writer) c.line.ensures c.write_record.ensures in
    lent_back c.new-writer.ensures.unwritten c.new-writer.ensures.start c.write_record-2.new.writer (left.joined c.write_record-2.ensures) (search rules)
