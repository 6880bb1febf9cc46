use Rattle.std.proofs.Common.{arith}
use Rattle.stamp_history.proofs.NumbersSoFar.{too_many}
use Rattle.stamp_history.proofs.words_value.listed_words.Goals as goal

pub returns-then-list-gt-MOST_WORDS : goal.returns-then-list-gt-MOST_WORDS
returns-then-list-gt-MOST_WORDS c = too_many c.args.list.now (omega arith)
