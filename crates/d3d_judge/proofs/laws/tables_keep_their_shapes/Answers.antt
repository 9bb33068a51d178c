use Rattle.d3d_judge.proofs.WordTouches.{all_tied_first}
use Rattle.d3d_judge.proofs.TableShapes.{shaped_first, scope_keeps, call_keeps, shaped_sub, shaped_actors, shaped_queue, shaped_thread, shaped_wide}
use Rattle.d3d_judge.proofs.laws.tables_keep_their_shapes.Goals as goal

pub returns : goal.returns
returns c = record {
  nothing = all_tied_first;
  first = shaped_first;
  after_scopes = scope_keeps;
  after_calls = call_keeps;
  subs = shaped_sub;
  actors = shaped_actors;
  of_queues = shaped_queue;
  of_threads = shaped_thread;
  wide = shaped_wide;
}
