-- The record of a run in rounds is legal, and in a legal record each object got its stream.
use Rattle.mama_laws_legal.specs.Laws.{LegalRecordsHaveStreams, RoundsAreLegal}
use Rattle.mama_laws_legal.proofs.Whole.{whole_edges, shaped, calls_told, lists_told}
use Rattle.mama_laws_legal.proofs.AllSent.{lines_done}
use Rattle.mama_laws_legal.proofs.LastEvents.{all_last, some_client}
use Rattle.mama_laws_legal.proofs.SubJournals.{sub_streams}
use Rattle.mama_laws_legal.proofs.InboxJournals.{inbox_streams}
use Rattle.mama_laws_legal.proofs.TimerJournals.{timer_streams}

pub have_streams : LegalRecordsHaveStreams
have_streams script run orderly legal = record {
  subs = sub_streams script run orderly legal.edges legal.lines;
  timers = timer_streams script run orderly legal.edges legal.lines;
  inboxes = inbox_streams script run orderly legal.edges legal.lines;
  last = all_last script run orderly.shaped (some_client orderly.within.clients_some) legal.edges legal.lines;
}

pub rounds_are_legal : RoundsAreLegal
rounds_are_legal script run orderly is = record {
  shaped = shaped script run is;
  lines = lines_done script run orderly.shaped is;
  edges = whole_edges script run is;
  calls = calls_told script run is;
  lists = lists_told script run is;
}
