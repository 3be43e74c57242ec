-- `text_or_refusal` meets its contract: the text stands, or one line is written.
use Rattle.std.proofs.Common.{◌∙◌, arith, rules}
use Rattle.refusals.specs.Numbers.{number_of}
use Rattle.lines.specs.Text.{text}
use Rattle.lines.proofs.Parts.{Left, left_lent, lent_back}
use Rattle.texts.specs.Texts.{refusal_text}
use Rattle.texts.proofs.Lengths.{refusal_length}
use Rattle.texts.proofs.text_or_refusal.Goals as goal
use Rattle.texts.proofs.text_or_refusal.Goals.{After-new-writer}

-- the line is to be written
all : (c : After-new-writer) → let t = refusal_text (number_of c.in-Err.refusal) in Left t c.new-writer.result t c.new-writer.result
all c = left_lent c.new-writer.ensures.unwritten c.new-writer.ensures.start (omega (arith, refusal_length (number_of c.in-Err.refusal), c.requires))

pub line-requires : goal.line-requires
unfolding refusal_text text
line-requires c = rw c.from.ensures (all (goal.at.line-requires c).After-new-writer).room

pub returns-in-Err-clause-refused : goal.returns-in-Err-clause-refused
unfolding refusal_text text
returns-in-Err-clause-refused c =
    let names = c.line.ensures.same_buffer ∙ c.new-writer.ensures.same_buffer in
    let written = (all (goal.at.returns-in-Err-clause-refused c).After-new-writer).joined (rw c.from.ensures at c.line.ensures) in
    rw c.in-Err.is (lent_back c.new-writer.ensures.unwritten c.new-writer.ensures.start c.line.new.self written (search rules))
