pub mod HostStored
