-- A fresh router is sound.
use Rattle.std.proofs.Common.{ℕ, ◌+◌, ◌*◌, ◌≤◌, ◌<◌, ◌≡◌, List, length, sum, replicate, arith, refl}
use Rattle.std.proofs.lemmas.Grind.{common_steps}
use Rattle.std.proofs.lemmas.List.{length-replicate, get_or-replicate}
use Rattle.std.proofs.lemmas.Nat.{mul-add-lt}
use Rattle.std.proofs.lemmas.List.Elements.{All-replicate}
use Rattle.worm_flit.specs.Channels.{AreChannels}
use Rattle.worm_mesh.specs.Address.{node_count}
use Rattle.worm_records.specs.declared.OutRecord.{OutRecord}
use Rattle.worm_router.specs.Router.{HasLists, IsChannel, ChannelState, fresh_channel, free_output}

-- each port of it has a channel
pub some_channel : (channels : List ℕ) → AreChannels channels → 0 < sum channels
some_channel channels are =
    let some = are.some in let each = are.each in grind (arith, common_steps)

fresh_channel_sound : (mesh channels : List ℕ) (depth : ℕ) → IsChannel mesh channels depth (fresh_channel depth)
fresh_channel_sound mesh channels depth = record {
  same_depth = refl;
  fits = omega arith;
  bound_for_nodes = λ k d h. absurd (omega (arith, h));
  state_fits = tt;
  owed_fits = omega arith;
}

pub fresh_lists : (mesh : List ℕ) (node : ℕ) (channels : List ℕ) (depth count : ℕ) (inputs : List ChannelState)
    (outputs : List OutRecord)
    → node < node_count mesh → depth ≤ 16
    → count ≡ (2 * length mesh + 1) * sum channels
    → inputs ≡ replicate count (fresh_channel depth)
    → outputs ≡ replicate count (free_output depth)
    → HasLists mesh node channels depth inputs outputs
fresh_lists mesh node channels depth count inputs outputs node_in depth_in counted all_fresh all_free = record {
  node_in = node_in;
  depth_in = depth_in;
  all_inputs = rw all_fresh (rw length-replicate counted);
  all_outputs = rw all_free (rw length-replicate counted);
  inputs_sound = rw all_fresh (All-replicate (IsChannel mesh channels depth) count (fresh_channel depth)
      (fresh_channel_sound mesh channels depth));
  credits_fit = rw all_free (All-replicate (λ (o : OutRecord). o.credits ≤ depth) count (free_output depth)
      (omega arith));
  terminal_full = λ vc below.
      let within : 2 * length mesh * sum channels + vc < count = let room =
      mul-add-lt (2 * length mesh) (sum channels) vc (2 * length mesh + 1) (omega arith) below in omega arith in
      rw (
        all_free,
        get_or-replicate count (2 * length mesh * sum channels + vc) (free_output depth)
            (free_output depth) within,
      ) refl;
}
