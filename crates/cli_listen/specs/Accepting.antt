-- Errors of an accept (own).
use Rattle.std.specs.Prelude.{Bool, true, false}
use Rattle.std.specs.declared.io.ErrorKind.{ErrorKind}

-- The error says what became of the connection that would have been accepted: it was interrupted,
-- or the peer or the way to it was lost. The next one can be accepted.
abbrev pub concerns_one : ErrorKind → Bool
concerns_one ErrorKind.Interrupted = true
concerns_one ErrorKind.ConnectionAborted = true
concerns_one ErrorKind.ConnectionReset = true
concerns_one ErrorKind.TimedOut = true
concerns_one ErrorKind.HostUnreachable = true
concerns_one ErrorKind.NetworkUnreachable = true
concerns_one ErrorKind.NetworkDown = true
concerns_one kind = false
