-- The limits of a connection (own).
use Rattle.std.specs.Prelude.{ℕ, ◌+◌}

-- the most bytes of a head
abbrev pub max_head : ℕ
max_head = 16384

-- the most fields of a head
abbrev pub max_fields : ℕ
max_fields = 64

-- the most bytes of a body
abbrev pub max_body : ℕ
max_body = 1048576

-- the most bytes that are read at once of a head, or of what follows a body
abbrev pub read_size : ℕ
read_size = 16384

-- the most bytes of a body that are read at once
abbrev pub chunk_size : ℕ
chunk_size = 65536

-- fewer bytes than these are read before the next message is whole, and then memory runs out: those
-- of a message, and of one read ahead of its end
abbrev pub max_unanswered : ℕ
max_unanswered = max_head + max_body + read_size

-- the most messages of a connection
abbrev pub max_messages : ℕ
max_messages = 10000
