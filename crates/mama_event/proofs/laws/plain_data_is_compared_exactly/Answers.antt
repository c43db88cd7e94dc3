use Rattle.std.proofs.lemmas.Slice.Eq.{bytes_eq-Decides}
use Rattle.mama_event.specs.EqualityLaws as equality
use Rattle.mama_event.proofs.laws.plain_data_is_compared_exactly.Goals as goal

pub returns-clause-sub : goal.returns-clause-sub
returns-clause-sub c = equality.same_sub-Decides

pub returns-clause-timer : goal.returns-clause-timer
returns-clause-timer c = equality.same_timer-Decides

pub returns-clause-inbox : goal.returns-clause-inbox
returns-clause-inbox c = equality.same_inbox-Decides

pub returns-clause-market_msg : goal.returns-clause-market_msg
returns-clause-market_msg c = equality.same_market_msg-Decides

pub returns-clause-wire_msg : goal.returns-clause-wire_msg
returns-clause-wire_msg c = equality.same_wire_msg-Decides

pub returns-clause-piece_msg : goal.returns-clause-piece_msg
returns-clause-piece_msg c = equality.same_piece_msg-Decides

pub returns-clause-order : goal.returns-clause-order
returns-clause-order c = equality.same_order-Decides

pub returns-clause-orders : goal.returns-clause-orders
returns-clause-orders c = equality.same_orders-Decides

pub returns-clause-given : goal.returns-clause-given
returns-clause-given c = equality.same_orders-Decides

pub returns-clause-plan_row : goal.returns-clause-plan_row
returns-clause-plan_row c = equality.same_plan_row-Decides

pub returns-clause-callback : goal.returns-clause-callback
returns-clause-callback c = equality.same_callback-Decides

pub returns-clause-call_note : goal.returns-clause-call_note
returns-clause-call_note c = equality.same_call_note-Decides

pub returns-clause-publisher_note : goal.returns-clause-publisher_note
returns-clause-publisher_note c = equality.same_publisher_note-Decides

pub returns-clause-publisher_entry : goal.returns-clause-publisher_entry
returns-clause-publisher_entry c = equality.same_publisher_entry-Decides

pub returns-clause-queue_note : goal.returns-clause-queue_note
returns-clause-queue_note c = equality.same_queue_note-Decides

pub returns-clause-sub_terms : goal.returns-clause-sub_terms
returns-clause-sub_terms c = equality.same_sub_terms-Decides

pub returns-clause-inbox_terms : goal.returns-clause-inbox_terms
returns-clause-inbox_terms c = equality.same_inbox_terms-Decides

pub returns-clause-bridge_note : goal.returns-clause-bridge_note
returns-clause-bridge_note c = equality.same_bridge_note-Decides

pub returns-clause-fids : goal.returns-clause-fids
returns-clause-fids c = bytes_eq-Decides

pub returns-clause-topics : goal.returns-clause-topics
returns-clause-topics c = bytes_eq-Decides

pub returns-clause-members : goal.returns-clause-members
returns-clause-members c = equality.same_members-Decides

pub returns-clause-group : goal.returns-clause-group
returns-clause-group c = equality.same_group_row-Decides

pub returns-clause-group_note : goal.returns-clause-group_note
returns-clause-group_note c = equality.same_group_note-Decides

pub returns-clause-watch : goal.returns-clause-watch
returns-clause-watch c = equality.same_watch_row-Decides

pub returns-clause-watch_note : goal.returns-clause-watch_note
returns-clause-watch_note c = equality.same_watch_note-Decides
