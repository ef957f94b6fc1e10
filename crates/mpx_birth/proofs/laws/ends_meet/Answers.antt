use Rattle.mpx_birth.proofs.Meeting.{sent_meets, sent_once, taken_meets, taken_once}
use Rattle.mpx_birth.proofs.laws.ends_meet.Goals as goal

pub returns : goal.returns
returns c = record {
  sent = λ topology promise rank place l. sent_meets topology promise rank place l;
  taken = λ topology promise rank place l. taken_meets topology promise rank place l;
  taken_once = taken_once;
  sent_once = sent_once;
}
