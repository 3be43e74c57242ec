-- `on_words::buffers::clear` meets its contract: zeros stand in front. Assumes nothing.
use Rattle.on_words.specs.Buffers.{work_words, cleared}
use Rattle.on_words.proofs.Filling.{zeros_front}
use Rattle.on_words.proofs.buffers.clear.Goals as goal

pub returns : goal.returns
unfolding cleared work_words
returns c = zeros_front 16384 c.args.work.now c.fill.new.self c.requires (c.fill.ensures.after (λ y e. e))
