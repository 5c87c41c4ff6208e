use Rattle.std.proofs.Common.{ap, ◌∙◌}
use Rattle.board.specs.Cards.{contents_of}
use Rattle.schedule.specs.declared.pile.Pile.TheVariants as name
use Rattle.rehearsal.specs.Piles.{cells, collect_pile, coin_pile, leader_pile, bit_pairs_pile, half_sets_pile, in_sequence, built}
use Rattle.rehearsal.specs.Serving.{run_at}
use Rattle.rehearsal.proofs.Begins.{pile_arrives, sequence_start, named}
use Rattle.rehearsal.proofs.serving.renew.Goals as goal

pub returns-in-Collect-clause-arrives : goal.returns-in-Collect-clause-arrives
unfolding built
returns-in-Collect-clause-arrives c =
    let u = c.args.start in
    let n = u.stations in
    pile_arrives (run_at c.args.reader.now c.args.listing.now) u c.begin.result (run_at c.begin.new.reader c.begin.new.listing) (built name.Collect n u.leader) _ (named u.pile name.Collect n u.leader c.in-Collect.is) c.on_cells.ensures c.begin.ensures.arrives

pub returns-in-Quorum-clause-arrives : goal.returns-in-Quorum-clause-arrives
unfolding built
returns-in-Quorum-clause-arrives c =
    let u = c.args.start in
    let n = u.stations in
    let start =
    c.new-object.ensures.state ∙ ap (λ k. (bit_pairs_pile k (contents_of c.new.result.bytes.now)).start) c.new-bit_pairs.ensures
    ∙ ap (λ b. (bit_pairs_pile n (contents_of b.now)).start) c.new.ensures in
    pile_arrives (run_at c.args.reader.now c.args.listing.now) u c.begin-in-Quorum.result (run_at c.begin-in-Quorum.new.reader c.begin-in-Quorum.new.listing) (built name.Quorum n u.leader) _ (named u.pile name.Quorum n u.leader c.in-Quorum.is) start c.begin-in-Quorum.ensures.arrives

pub returns-in-CoinCollect-clause-arrives : goal.returns-in-CoinCollect-clause-arrives
unfolding built
returns-in-CoinCollect-clause-arrives c =
    let u = c.args.start in
    let n = u.stations in
    let start = sequence_start (coin_pile n) (collect_pile n) _ _ _ c.on_cells-in-CoinCollect.ensures c.on_cells-in-CoinCollect-2.ensures c.new-object-in-CoinCollect.ensures.state in
    pile_arrives (run_at c.args.reader.now c.args.listing.now) u c.begin-in-CoinCollect.result (run_at c.begin-in-CoinCollect.new.reader c.begin-in-CoinCollect.new.listing) (built name.CoinCollect n u.leader) _ (named u.pile name.CoinCollect n u.leader c.in-CoinCollect.is) start c.begin-in-CoinCollect.ensures.arrives

pub returns-in-LeaderQuorum-clause-arrives : goal.returns-in-LeaderQuorum-clause-arrives
unfolding built
returns-in-LeaderQuorum-clause-arrives c =
    let u = c.args.start in
    let n = u.stations in
    let half = c.on_cells-in-LeaderQuorum-2.ensures ∙ ap (λ k. (half_sets_pile k).start) c.new-half_sets.ensures in
    let start = sequence_start (leader_pile n u.leader) (half_sets_pile n) _ _ _ c.on_cells-in-LeaderQuorum.ensures half c.new-object-in-LeaderQuorum.ensures.state in
    pile_arrives (run_at c.args.reader.now c.args.listing.now) u c.begin-in-LeaderQuorum.result (run_at c.begin-in-LeaderQuorum.new.reader c.begin-in-LeaderQuorum.new.listing) (built name.LeaderQuorum n u.leader) _ (named u.pile name.LeaderQuorum n u.leader c.in-LeaderQuorum.is) start c.begin-in-LeaderQuorum.ensures.arrives

pub returns-in-CollectCoinQuorum-clause-arrives : goal.returns-in-CollectCoinQuorum-clause-arrives
unfolding built
returns-in-CollectCoinQuorum-clause-arrives c =
    let u = c.args.start in
    let n = u.stations in
    let bits = c.on_cells-in-CollectCoinQuorum-2.ensures ∙ ap (λ k. (bit_pairs_pile k cells).start) c.new-bit_pairs.ensures in
    let back = sequence_start (coin_pile n) (bit_pairs_pile n cells) _ _ _ c.on_cells-in-CollectCoinQuorum.ensures bits c.new-back.ensures.state in
    let start = sequence_start (collect_pile n) (in_sequence (coin_pile n) (bit_pairs_pile n cells)) _ _ _ c.on_cells-in-CollectCoinQuorum-3.ensures back c.new-object-in-CollectCoinQuorum.ensures.state in
    pile_arrives (run_at c.args.reader.now c.args.listing.now) u c.begin-in-CollectCoinQuorum.result (run_at c.begin-in-CollectCoinQuorum.new.reader c.begin-in-CollectCoinQuorum.new.listing) (built name.CollectCoinQuorum n u.leader) _ (named u.pile name.CollectCoinQuorum n u.leader c.in-CollectCoinQuorum.is) start c.begin-in-CollectCoinQuorum.ensures.arrives

pub returns-in-QuorumLeaderCoinCollect-clause-arrives : goal.returns-in-QuorumLeaderCoinCollect-clause-arrives
unfolding built
returns-in-QuorumLeaderCoinCollect-clause-arrives c =
    let u = c.args.start in
    let n = u.stations in
    let half = c.on_cells-in-QuorumLeaderCoinCollect.ensures ∙ ap (λ k. (half_sets_pile k).start) c.new-half_sets.ensures in
    let front = sequence_start (half_sets_pile n) (leader_pile n u.leader) _ _ _ half c.on_cells-in-QuorumLeaderCoinCollect-2.ensures c.new-front.ensures.state in
    let back = sequence_start (coin_pile n) (collect_pile n) _ _ _ c.on_cells-in-QuorumLeaderCoinCollect-3.ensures c.on_cells-in-QuorumLeaderCoinCollect-4.ensures c.new-back-in-QuorumLeaderCoinCollect.ensures.state in
    let start = sequence_start (in_sequence (half_sets_pile n) (leader_pile n u.leader)) (in_sequence (coin_pile n) (collect_pile n)) _ _ _ front back c.new-object-in-QuorumLeaderCoinCollect.ensures.state in
    pile_arrives (run_at c.args.reader.now c.args.listing.now) u c.begin-in-QuorumLeaderCoinCollect.result (run_at c.begin-in-QuorumLeaderCoinCollect.new.reader c.begin-in-QuorumLeaderCoinCollect.new.listing) (built name.QuorumLeaderCoinCollect n u.leader) _ (named u.pile name.QuorumLeaderCoinCollect n u.leader c.in-QuorumLeaderCoinCollect.is) start c.begin-in-QuorumLeaderCoinCollect.ensures.arrives
