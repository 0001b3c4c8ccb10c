use Rattle.room_http.specs.Text.{refusal_reply}
use Rattle.room_http.proofs.refusal.refusal_bytes.Goals as goal

pub returns-in-TooManyFields : goal.returns-in-TooManyFields
unfolding refusal_reply
returns-in-TooManyFields c = rw c.in-TooManyFields.is c.print_why-in-TooManyFields.ensures

pub returns-in-TransferCoding : goal.returns-in-TransferCoding
unfolding refusal_reply
returns-in-TransferCoding c = rw c.in-TransferCoding.is c.print_why-in-TransferCoding.ensures

pub returns-in-TooLarge : goal.returns-in-TooLarge
unfolding refusal_reply
returns-in-TooLarge c = rw c.in-TooLarge.is c.print_why-in-TooLarge.ensures
