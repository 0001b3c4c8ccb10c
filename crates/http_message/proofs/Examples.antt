-- Worked examples: what the definitions say at written messages and replies.
use Rattle.std.proofs.Common.{◌≡◌, [], refl, codes}
use Rattle.http_message.specs.{Form.status_line, Target.{path_part, query_part}, Fields.trimmed}

-- ---- status lines

ok_line : status_line 200 ≡ codes "HTTP/1.1 200 OK\r\n"
ok_line = refl

created_line : status_line 201 ≡ codes "HTTP/1.1 201 Created\r\n"
created_line = refl

no_content_line : status_line 204 ≡ codes "HTTP/1.1 204 No Content\r\n"
no_content_line = refl

bad_request_line : status_line 400 ≡ codes "HTTP/1.1 400 Bad Request\r\n"
bad_request_line = refl

forbidden_line : status_line 403 ≡ codes "HTTP/1.1 403 Forbidden\r\n"
forbidden_line = refl

not_found_line : status_line 404 ≡ codes "HTTP/1.1 404 Not Found\r\n"
not_found_line = refl

not_allowed_line : status_line 405 ≡ codes "HTTP/1.1 405 Method Not Allowed\r\n"
not_allowed_line = refl

conflict_line : status_line 409 ≡ codes "HTTP/1.1 409 Conflict\r\n"
conflict_line = refl

too_large_line : status_line 413 ≡ codes "HTTP/1.1 413 Payload Too Large\r\n"
too_large_line = refl

unprocessable_line : status_line 422 ≡ codes "HTTP/1.1 422 Unprocessable Entity\r\n"
unprocessable_line = refl

too_many_fields_line : status_line 431 ≡ codes "HTTP/1.1 431 Request Header Fields Too Large\r\n"
too_many_fields_line = refl

fault_line : status_line 500 ≡ codes "HTTP/1.1 500 Internal Server Error\r\n"
fault_line = refl

not_implemented_line : status_line 501 ≡ codes "HTTP/1.1 501 Not Implemented\r\n"
not_implemented_line = refl

-- ---- targets

query_behind_mark : (path_part (codes "/can/f?rq") ≡ codes "/can/f")
    × (query_part (codes "/can/f?rq") ≡ codes "rq")
query_behind_mark = (refl, refl)

empty_query : (query_part (codes "/can/f?") ≡ []) × (query_part (codes "/can/f") ≡ [])
empty_query = (refl, refl)

blanks_dropped : trimmed (codes " \troot \t") ≡ codes "root"
blanks_dropped = refl
