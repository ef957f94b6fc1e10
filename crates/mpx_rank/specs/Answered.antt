-- What came of a call, as the answer that it is.
use Rattle.mpx_value.specs.Histories.{Answer}
use Rattle.mpx_rank.specs.declared.answered.Answered.{Answered}

abbrev pub answer_of : Answered → Answer
answer_of a = record { outcome = a.outcome; born = a.born }
