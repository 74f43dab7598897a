-- A pen, an eye and a note may go to other threads, and threads may share a board, under any law. `crossing` has these
-- lemmas, for the `search` of a caller that starts threads: `search (sendable, crossing) depth 9`.
use denote.RattleType.{RattleType}
use denote.Param.Send.{IsSend, IsSync, sendable, view_sync}
use Rattle.std.proofs.Crossing.{crosses}
use Rattle.std.proofs.alloc.Global.TheSendSync as heap
use Rattle.atomic_table.proofs.shared.Seat.TheSendSync as seat
use Rattle.atomic_table.proofs.shared.Shared.TheSendSync as shared
use Rattle.atomic_table.proofs.send_lease.SendLease.TheSendSync as lease
use Rattle.whips_board.specs.declared.law.Law.{Ghosts}
use Rattle.whips_board.specs.contracts.board.Board as board
use Rattle.whips_board.specs.contracts.board.Board.TheInside as inside
use Rattle.whips_board.specs.contracts.pen.Pen as pen
use Rattle.whips_board.specs.contracts.eye.Eye as eye
use Rattle.whips_board.specs.contracts.note.Note as note

pub pen_send : (L : RattleType) (g : Ghosts L.Denot) → IsSend (pen.the_row L g)
pen_send L g = search (sendable, crosses, seat.the_send) depth 9

pub eye_send : (L : RattleType) (g : Ghosts L.Denot) → IsSend (eye.the_row L g)
eye_send L g = search (sendable, crosses, seat.the_send) depth 9

pub note_send : (L : RattleType) (g : Ghosts L.Denot) → IsSend (note.the_row L g)
note_send L g = search (sendable, crosses, seat.the_send) depth 9

pub board_send : (L : RattleType) (g : Ghosts L.Denot) → IsSend (board.the_row L g)
board_send L g = search (sendable, crosses, shared.the_send, lease.the_send, heap.the_send) depth 16

fields_sync : (L : RattleType) (g : Ghosts L.Denot) → IsSync (inside.the_row L g)
fields_sync L g = search (sendable, crosses, shared.the_sync, lease.the_sync, heap.the_send, heap.the_sync) depth 16

pub board_sync : (L : RattleType) (g : Ghosts L.Denot) → IsSync (board.the_row L g)
board_sync L g = view_sync (inside.the_row L g) _ _ _ _ (fields_sync L g)

pub ruleset crossing = (pen_send, eye_send, note_send, board_send, board_sync)
