use Rattle.std.proofs.Common.{◌≡◌, ℕ, ◌+◌, cond, List, [], ◌∷◌, ◌++◌, drop, refl, ap, ◌∙◌, sym}
use Rattle.count_insert.specs.Lists.{Renaming, news_for, queue_at}
use Rattle.count_insert.proofs.Queued.{put_turn}
use Rattle.count_insert.proofs.Turns.{drop_turn}
use Rattle.ir_tree.specs.Names.{same}
use Rattle.count_insert.proofs.queues.Queues.of.Goals as goal

pub loop-label-preserved : goal.loop-label-preserved
loop-label-preserved c q =
    let news = c.args.news.now in
    let i = c.loop-label.label-index in
    let r : Renaming = c.loop-label-item.result in
    let old : List ℕ → List (List ℕ) = queue_at c.loop-label.queues in
    let rest : List (List ℕ) = news_for q (drop (i + 1) news) in
    let put : queue_at c.push.new.self q ≡ cond (same r.0 q) (old r.0 ++ r.1 ∷ []) (old q) =
    c.in_ok-push.ensures q ∙ ap (λ n. cond (same r.0 q) (old r.0 ++ n ∷ []) (old q)) c.in_ok-copy.ensures in
    ap (λ (z : List (List ℕ)). z ++ rest) put ∙ put_turn (same r.0 q) r.0 q refl old r.1 rest ∙ ap (λ (ns : List Renaming). old q ++ news_for q ns) (sym (drop_turn news i r c.loop-label-test.true c.loop-label-item.is)) ∙ c.loop-label.invariant q
