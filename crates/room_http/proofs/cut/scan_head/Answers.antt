use Rattle.room_http.{specs.Limits.max_head, proofs.Heads.{window-is, scans-from-window}}
use Rattle.room_http.proofs.cut.scan_head.Goals as goal

pub returns : goal.returns
returns c = scans-from-window _ _ _ _ (window-is max_head _ _ c.min.ensures) c.scan_window.ensures
