-- Worked examples: whole replies, byte for byte.
use Rattle.std.{proofs.Common.{◌≡◌, [], ◌∷◌, false, true, None, refl, codes}, specs.Fmt.digits}
use Rattle.serde_json.proofs.OnLiterals.{serde_json_on_literals}
use Rattle.room_entry.specs.{Bits.all_bits, Letters.mask_letters}
use Rattle.room_ace.specs.declared.fault.Why.{Why}
use Rattle.room_machine.specs.declared.reply.Reply.{Reply}
use Rattle.http_message.specs.{declared.fault.HttpFault.HttpFault, Form.reply_form}
use Rattle.http_message.specs.Reply.{reply_text, fault_text}

made : reply_text Reply.Made false ≡ codes "HTTP/1.1 201 Created\r\nContent-Length: 0\r\n\r\n"
unfolding reply_form digits
made = refl

done : reply_text Reply.Done true ≡ codes "HTTP/1.1 204 No Content\r\nConnection: close\r\n\r\n"
unfolding reply_form digits
done = refl

without_user : reply_text (Reply.Denied (codes "f" ∷ []) (1 ∷ []) None None) false
    ≡ codes
    "HTTP/1.1 403 Forbidden\r\nContent-Type: application/json\r\nContent-Length: 47\r\n\r\n{\"at\":\"/f\",\"bits\":\"r\",\"entry\":null,\"text\":null}"
unfolding reply_form digits all_bits mask_letters serde_json_on_literals
without_user = refl

unknown_method : fault_text HttpFault.UnknownMethod false
    ≡ codes
    "HTTP/1.1 405 Method Not Allowed\r\nAllow: DELETE, GET, POST, PUT\r\nContent-Length: 0\r\n\r\n"
unfolding reply_form digits
unknown_method = refl

bad_list_text : fault_text (HttpFault.BadList (record { line = 1; why = Why.NoListLine })) false
    ≡ codes
    "HTTP/1.1 422 Unprocessable Entity\r\nContent-Type: application/json\r\nContent-Length: 30\r\n\r\n{\"line\":1,\"why\":\"bad-list A6\"}"
unfolding reply_form digits serde_json_on_literals
bad_list_text = refl
