-- The text of a reply, and of the reply where a test of a whole message fails (own).
use Rattle.std.specs.Prelude.{ℕ, List, [], Some, None, Bool, codes}
use Rattle.room_ace.specs.Lists.{list_text}
use Rattle.room_machine.specs.declared.reply.Reply.{Reply}
use Rattle.room_machine.specs.declared.reply.Reason.{Reason}
use Rattle.http_message.specs.declared.fault.HttpFault.{HttpFault}
use Rattle.http_message.specs.Route.{allow_text, every_method}
use Rattle.http_message.specs.Form.{reply_form, json_form}
use Rattle.http_message.specs.Bodies.{names_data, attr_data, rulings_data, denied_data}
use Rattle.http_message.specs.Bodies.{refused_data, why_data, line_data, bad_path, bad_text}

abbrev pub octets : List ℕ
octets = codes "application/octet-stream"

abbrev pub plain_text : List ℕ
plain_text = codes "text/plain"

-- a body of another type than JSON
abbrev pub bytes_form : List ℕ → List ℕ → Bool → List ℕ
bytes_form kind body close = reply_form 200 (Some kind) None (Some body) close

abbrev pub reason_status : Reason → ℕ
reason_status Reason.NoSuch = 404
reason_status (Reason.BadList place fault) = 422
reason_status Reason.TooLarge = 413
reason_status why = 409

-- The text of a reply. The flag says whether the connection ends with it.
abbrev pub reply_text : Reply → Bool → List ℕ
reply_text (Reply.Bytes bytes) close = bytes_form octets bytes close
reply_text (Reply.Names children) close = json_form 200 (names_data children) close
reply_text (Reply.Lists flags entries) close = bytes_form plain_text (list_text flags entries) close
reply_text (Reply.Attr kind owners) close = json_form 200 (attr_data kind owners) close
reply_text (Reply.Rulings rulings) close = json_form 200 (rulings_data rulings) close
reply_text Reply.Made close = reply_form 201 None None (Some []) close
reply_text Reply.Done close = reply_form 204 None None None close
reply_text (Reply.Denied path bits place entry) close =
    json_form 403 (denied_data path bits place entry) close
reply_text (Reply.Refused path why) close =
    json_form (reason_status why) (refused_data path why) close

-- a method that isn't allowed, beside those that are
abbrev pub allow_form : List ℕ → Bool → List ℕ
allow_form allow close = reply_form 405 None (Some allow) (Some []) close

-- The text of the reply that reports the first test of a whole message that fails.
abbrev pub fault_text : HttpFault → Bool → List ℕ
fault_text HttpFault.UnknownMethod close = allow_form every_method close
fault_text HttpFault.BadTarget close = json_form 400 (why_data (codes "bad-target")) close
fault_text HttpFault.NoRoute close = json_form 404 (why_data (codes "no-route")) close
fault_text (HttpFault.OtherMethod route) close = allow_form (allow_text route) close
fault_text (HttpFault.BadPath fault) close = json_form 400 (why_data (bad_path fault)) close
fault_text HttpFault.BadMask close = json_form 400 (why_data (codes "bad-target A4")) close
fault_text HttpFault.BadUser close = json_form 400 (why_data (codes "bad-user")) close
fault_text HttpFault.BadBody close = json_form 400 (why_data (codes "bad-body")) close
fault_text (HttpFault.BadList fault) close =
    json_form 422 (line_data fault.line (bad_text fault.why)) close
