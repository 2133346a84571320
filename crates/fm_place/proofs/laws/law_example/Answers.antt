use Rattle.fm_place.proofs.Example.{busy, counts, frees, held, items, marks, places, plan, read, sites, written}
use Rattle.fm_place.proofs.laws.law_example.Goals as goal

pub returns : goal.returns
returns c = record {
  sites = sites;
  held = held;
  busy = busy;
  places = places;
  plan = plan;
  items = items;
  read = read;
  written = written;
  marks = marks;
  counts = counts;
  frees = frees;
}
