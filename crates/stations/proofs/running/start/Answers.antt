-- `stations::running::start` meets its contract: four fresh machines. Assumes nothing.
use Rattle.turns.specs.Stations.{started, four}
use Rattle.stations.proofs.running.start.Goals as goal

pub returns : goal.returns
unfolding started
returns g c =
    λ lent i. record {
      machines = four (c.fresh.ensures lent.first i) (c.fresh-2.ensures lent.second i)
          (c.fresh-3.ensures lent.third i) (c.fresh-4.ensures lent.fourth i);
      left = c.args.allowance;
      passes = 0;
      turns = 0;
    }
