-- What a channel's set-up that is lent leaves in the whole set-up. Assumes nothing.
use Rattle.std.specs.Borrow.{Lends, MutBor, Fml}
use Rattle.registers.specs.Setting.{with_channel}
use Rattle.registers.specs.declared.setting.Channel.{Channel}
use Rattle.registers.specs.declared.setting.ChannelSetUp.{ChannelSetUp}
use Rattle.registers.specs.declared.setting.SetUp.{SetUp}
use Rattle.registers.specs.contracts.setting.ChannelSetUp.{the_row as channel_row}
use Rattle.registers.specs.contracts.setting.SetUp.{the_row}

-- the set-up ends with the channel's part set to the last value behind r
abbrev pub LendsChannel : Channel → MutBor SetUp → MutBor ChannelSetUp → Fml
LendsChannel channel s r = Lends the_row channel_row s r (λ c. with_channel channel c s.now)
