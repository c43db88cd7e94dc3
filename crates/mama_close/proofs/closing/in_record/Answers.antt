use Rattle.mama_close.proofs.closing.in_record.Goals as goal

pub returns : goal.returns
returns g c = record {
  calls = c.in_ok-calls.calls.items;
  calls_objects = c.in_ok-calls.ensures.objects;
  calls_left = c.in_ok-calls.ensures.values;
  run_is = c.new-run.ensures;
  back_objects = c.in_ok-listeners.ensures.objects;
  back_left = c.in_ok-listeners.ensures.values;
}
