use denote.Param.Send.{sendable}
use Rattle.whips_board.proofs.Sent.{crossing}
use Rattle.whips_data_tests.proofs.board.store_and_load.Goals as goal

pub join-requires-send-F : goal.join-requires-send-F
join-requires-send-F g c κs within = search (sendable, crossing) depth 9

pub join-requires-send-A : goal.join-requires-send-A
join-requires-send-A g c κs within = search (sendable, crossing) depth 9
